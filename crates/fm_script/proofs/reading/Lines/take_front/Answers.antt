use Rattle.std.proofs.Common.{◌≡◌, ◌∷◌, ◌++◌, [], sym, subst, ◌∙◌, append_assoc, arith, rules, take}
use Rattle.fm_script.specs.Listening.{HasNoFeed, clipped}
use Rattle.fm_script.proofs.Handed.{all_of, line_fails, line_taken, rest_kept, taken_well}
use Rattle.fm_script.proofs.reading.Lines.take_front.Goals as goal

pub returns-in-Ok-clause-takes : goal.returns-in-Ok-clause-takes
returns-in-Ok-clause-takes g c =
    let front = c.split_at_byte.result.0.now in
    let parts : c.args.piece.now ≡ front ++ 10 ∷ c.in-Some.behind.now = search rules in (
      front ++ 10 ∷ [],
      parts ∙ sym (append_assoc front (10 ∷ []) c.in-Some.behind.now),
      λ first input s. let took = taken_well (g.L.Listener.takes c.args.self.now.listener (clipped (s.rest ++ front))) c.end_line.result c.args.self.now.listener c.end_line.new.self.listener c.in-Ok.is (c.end_line.ensures.takes s.rest s.keeps) in
          rw (c.count_line.ensures.counts, c.count_line.ensures.others.0, c.count_line.ensures.others.1, c.in-Ok.ensures.begins, c.end_line.ensures.counts)
          (line_taken g.L.Listener.takes g.L.Listener.pauses first c.args.self.now.listener c.end_line.new.self.listener input c.args.self.now.line front
          c.args.self.now.count s c.split_at_byte.ensures.front (omega (arith, c.if-self-ge-LINES.false)) took),
    )

pub returns-in-Err-clause-breaks : goal.returns-in-Err-clause-breaks
returns-in-Err-clause-breaks g c first input s =
    let front = c.split_at_byte.result.0.now in
    let parts : c.args.piece.now ≡ front ++ 10 ∷ c.in-Some.behind.now = search rules in
    rw parts (line_fails g.L.Listener.takes g.L.Listener.pauses c.end_line.result c.in-Err.end first c.args.self.now.listener c.end_line.new.self.listener
    input c.args.self.now.line front c.in-Some.behind.now c.args.self.now.count s c.split_at_byte.ensures.front c.in-Err.is c.end_line.ensures.takes)

pub returns-in-Ok-keep-clause-takes : goal.returns-in-Ok-keep-clause-takes
returns-in-Ok-keep-clause-takes g c =
    let same : c.split_at_byte.result.0.now ≡ c.args.piece.now = search rules in
    let kept : c.keep.new.self.line ≡ take 4097 (c.args.self.now.line ++ c.args.piece.now) = search rules in (
      c.args.piece.now,
      all_of c.args.piece.now,
      λ first input s. rw c.keep.ensures.others.1
          (rest_kept g.L.Listener.takes g.L.Listener.pauses first c.args.self.now.listener c.keep.new.self.listener input c.args.self.now.line c.args.piece.now
          c.keep.new.self.line c.args.self.now.count s (subst (λ t. HasNoFeed t) same c.split_at_byte.ensures.front) kept c.keep.ensures.others.0),
    )
