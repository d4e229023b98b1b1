use Rattle.std.proofs.Common.{◌∙◌, ◌+◌, ◌∷◌}
use Rattle.fm_ctx.proofs.Words.{List, [], Option, None, ap, sym, subst, arith, length, length-append, CtxId}
use Rattle.fm_ctx.specs.DueLists.{AreLinked, Waiting}
use Rattle.fm_ctx.proofs.DueLists.{due_list, linked_more, walked}
use Rattle.fm_ctx.proofs.due_list.DueList.add.Goals as goal

more : (c : goal.After-push_reserved) → AreLinked c.push_reserved.new.self.items c.self.inside.first c.self.inside.last c.args.self.now.ids
more c =
    subst (λ (nexts : List (Option CtxId)). AreLinked nexts c.self.inside.first c.self.inside.last c.args.self.now.ids) (sym c.push_reserved.ensures.items)
    (linked_more (subst (AreLinked c.self.inside.nexts.items c.self.inside.first c.self.inside.last)
    (ap (λ (w : Waiting). w.ids) c.self.view_is) c.self.invariant.linked))

pub invariant_of-self : goal.invariant_of-self
invariant_of-self c = due_list (more c) (omega (arith, c.self.invariant.fits, c.push_reserved.ensures.capacity))

pub returns : goal.returns
returns c =
    let slots = ap (λ (w : Waiting). w.slots + 1) c.self.view_is in
    let long = ap length c.push_reserved.ensures.items ∙ length-append c.self.inside.nexts.items (None ∷ []) ∙ slots in
    λ i. record { slots = long i; ids = walked (more c) i }
