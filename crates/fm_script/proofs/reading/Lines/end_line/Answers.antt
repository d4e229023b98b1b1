use Rattle.std.proofs.Common.{◌≡◌, ◌++◌, inl, [], ◌∙◌, rules, subst, take}
use Rattle.fm_script.proofs.Handed.{clipped_more, whole_line}
use Rattle.fm_script.proofs.reading.Lines.end_line.Goals as goal

pub returns-then-is_empty-clause-takes : goal.returns-then-is_empty-clause-takes
returns-then-is_empty-clause-takes g c rest keeps =
    let none : c.args.self.now.line ≡ [] = search rules in
    inl (subst (λ t. g.L.Listener.takes c.args.self.now.listener t c.take.result c.take.new.self)
    (whole_line c.args.self.now.line rest c.args.piece.now c.min.result keeps none c.min.ensures) c.take.ensures)

pub returns-in-Ok-clause-takes : goal.returns-in-Ok-clause-takes
returns-in-Ok-clause-takes g c rest keeps =
    let kept : c.keep.new.self.line ≡ take 4097 (c.args.self.now.line ++ c.args.piece.now) = search rules in
    inl (subst (λ t. g.L.Listener.takes c.args.self.now.listener t c.run.result c.run.new.self.listener)
    (kept ∙ clipped_more c.args.self.now.line rest c.args.piece.now keeps)
    (subst (λ l. g.L.Listener.takes l c.keep.new.self.line c.run.result c.run.new.self.listener) c.keep.ensures.others.0 c.run.ensures.takes))
