use Rattle.std.proofs.Common.{◌≡◌, ◌++◌, ◌∷◌, ◌∙◌, ap, sym, List}
use Rattle.std.specs.Vec.Iter.{into_iter_items}
use Rattle.fm_wire.specs.declared.frame.Frame.{Frame}
use Rattle.fm_server.specs.Replies.{Says}
use Rattle.fm_server.proofs.Known.{appends_more}
use Rattle.fm_server.proofs.Frames.{does_more, does_until, taken_front}
use Rattle.fm_server.proofs.answering.do_all.Goals as goal

pub loop-frame-preserved : goal.loop-frame-preserved
loop-frame-preserved g c =
    let so_far = c.loop-frame.invariant in
    let one = c.in-Ok.ensures.does in (
      so_far.0 ++ one.0,
      appends_more _ _ _ so_far.0 one.0 so_far.1 one.1,
      does_more (Says g.E.Exec.operates g.E.Exec.controls) c.args.exec.now c.loop-frame.exec c.do_one.new.exec c.loop-frame.yielded
          c.in-Some.frame so_far.0 one.0 so_far.2 one.2,
      λ before. c.in-Ok.ensures.handed (so_far.3 before),
    )

pub returns-in-Err-clause-does : goal.returns-in-Err-clause-does
returns-in-Err-clause-does g c =
    let so_far = c.loop-frame.invariant in
    let one = c.in-Err.ensures.does in
    let it = c.into_iter-frame-iterator in
    let left = into_iter_items c.next.new.self in
    let all : c.args.frames.items ≡ c.loop-frame.yielded ++ c.in-Some.frame ∷ left =
    sym it.ensures.into_iter_gives.0 ∙ taken_front it.result c.loop-frame.yielded c.loop-frame.frame-iterator c.loop-frame.yielded_by
    ∙ ap (λ (fs : List Frame). c.loop-frame.yielded ++ fs) c.in-Some.ensures.steps.0 in (
      so_far.0 ++ one.0,
      appends_more _ _ _ so_far.0 one.0 so_far.1 one.1,
      does_until (Says g.E.Exec.operates g.E.Exec.controls) c.in-Err.end c.args.exec.now c.loop-frame.exec c.do_one.new.exec
          c.loop-frame.yielded c.in-Some.frame left c.args.frames.items
          so_far.0 one.0 all so_far.2 one.2,
    )
