use Rattle.fm_operations.proofs.Words.{ap, arith, length, reverse}
use Rattle.std.proofs.Common.{◌∙◌, ◌-◌, remove}
use Rattle.std.proofs.lemmas.List.{length-reverse}
use Rattle.fm_operations.proofs.Depths.{reverse_remove}
use Rattle.fm_operations.proofs.owed_stack.OwedStack.remove.Goals as goal

pub returns-clause-others : goal.returns-clause-others
returns-clause-others c =
    let many = ap length c.self.view_is in
    ap reverse c.remove.ensures.items ∙ reverse_remove c.self.inside.places.items (c.len.result - 1 - c.args.depth) c.args.depth
    (omega (arith, c.requires, many, length-reverse c.self.inside.places.items, c.len.ensures.value))
    ∙ ap (λ ys. remove ys c.args.depth) c.self.view_is
