use Rattle.std.proofs.Common.{◌<◌, ◌∙◌, ◌∷◌, ◌++◌}
use Rattle.fm_ctx.proofs.Words.{List, [], Option, Some, ap, sym, subst, length, arith, CtxId}
use Rattle.fm_ctx.specs.DueLists.{AreLinked, Waiting, walk}
use Rattle.fm_ctx.proofs.DueLists.{due_list, last_there, led_length, linked_now, linked_push, walked}
use Rattle.fm_ctx.proofs.due_list.DueList.push.Goals.{After-or-self-inside}
use Rattle.fm_ctx.proofs.due_list.DueList.push.Goals as goal

pub lead-requires-clause-last : goal.lead-requires-clause-last
lead-requires-clause-last c = last_there (walk (length c.self.inside.nexts.items) c.self.inside.nexts.items c.self.inside.first) c.self.invariant.linked

pushed : (c : After-or-self-inside) → AreLinked c.lead.new.nexts.items c.or-self-inside.result (Some c.args.id) (c.args.self.now.ids ++ c.args.id ∷ [])
pushed c =
    let inside = c.self.inside in
    let within = subst (λ (w : Waiting). c.args.id.slot < w.slots) (sym c.self.view_is) c.requires.within in
    subst (λ (p : List (Option CtxId) × Option CtxId). AreLinked p.0 p.1 (Some c.args.id) (c.args.self.now.ids ++ c.args.id ∷ []))
    (λ i. (sym c.lead.ensures.nexts i, sym c.or-self-inside.ensures i))
    (linked_push c.args.id (linked_now c.self.invariant.linked c.self.view_is) within c.requires.absent)

pub invariant_of-self : goal.invariant_of-self
invariant_of-self c = due_list (pushed (goal.at.invariant_of-self c).After-or-self-inside) (omega (arith, c.self.invariant.fits, c.lead.ensures.room))

pub returns : goal.returns
returns c =
    let slots = ap (λ (w : Waiting). w.slots) c.self.view_is in
    let long = ap length c.lead.ensures.nexts ∙ led_length c.self.inside.nexts.items c.self.inside.last c.args.id ∙ slots in
    λ i. record { slots = long i; ids = walked (pushed (goal.at.returns c).After-or-self-inside) i }
