use Rattle.std.proofs.Common.{◌≡◌, ◌∷◌, ◌∙◌}
use Rattle.std.specs.Option.{option_and}
use Rattle.fm_ctx.proofs.Words.{List, Option, None, ap, refl, subst, sym, length, arith, get_or, get_or_default, CtxId}
use Rattle.fm_ctx.specs.DueLists.{AreLinked, Waiting, walk}
use Rattle.fm_ctx.proofs.DueLists.{Popped, due_list, first_there, linked_pop, none_waits, walked}
use Rattle.fm_ctx.proofs.due_list.DueList.pop.Goals.{After-and-self-inside}
use Rattle.fm_ctx.proofs.due_list.DueList.pop.Goals as goal

pub returns-in_default-clause-none : goal.returns-in_default-clause-none
returns-in_default-clause-none c =
    let inside = c.self.inside in (
      ap (λ (w : Waiting). w.ids) (sym c.self.view_is) ∙ none_waits inside.nexts.items
          (walk (length inside.nexts.items) inside.nexts.items inside.first) inside.first c.self.invariant.linked.chain c.in_default.is,
      refl,
    )

pub index-requires : goal.index-requires
index-requires c =
    let inside = c.self.inside in
    omega (
      arith,
      inside.nexts.ok.0,
      first_there (walk (length inside.nexts.items) inside.nexts.items inside.first) c.in-Some.id
          c.self.invariant.linked c.in-Some.is,
    )

popped : (c : After-and-self-inside) → Popped c.self.inside.nexts.items c.self.inside.last c.in-Some.id
    (walk (length c.self.inside.nexts.items) c.self.inside.nexts.items c.self.inside.first)
popped c = linked_pop (walk (length c.self.inside.nexts.items) c.self.inside.nexts.items c.self.inside.first) c.in-Some.id c.self.invariant.linked c.in-Some.is

led : (c : After-and-self-inside) → c.index.result.now ≡ get_or c.self.inside.nexts.items c.in-Some.id.slot None
led c =
    let inside = c.self.inside in
    let under = first_there (walk (length inside.nexts.items) inside.nexts.items inside.first) c.in-Some.id c.self.invariant.linked c.in-Some.is in
    c.index.ensures ∙ get_or_default inside.nexts.items c.in-Some.id.slot c.index.result.now None under

rest : (c : After-and-self-inside) → AreLinked c.self.inside.nexts.items c.index.result.now c.and-self-inside.result (popped c).rest
rest c =
    let nexts = c.self.inside.nexts.items in
    let last = c.and-self-inside.ensures ∙ ap (λ (o : Option CtxId). option_and o c.self.inside.last) (led c) in
    subst (λ (p : Option CtxId × Option CtxId). AreLinked nexts p.0 p.1 (popped c).rest) (λ i. (sym (led c) i, sym last i)) (popped c).linked

pub invariant_of-self : goal.invariant_of-self
invariant_of-self c = due_list (rest (goal.at.invariant_of-self c).After-and-self-inside) c.self.invariant.fits

pub returns-clause-some : goal.returns-clause-some
returns-clause-some c =
    let at = (goal.at.returns-clause-some c).After-and-self-inside in (
      ap (λ (w : Waiting). w.ids) (sym c.self.view_is) ∙ (popped at).is ∙ ap (λ (ids : List CtxId). c.in-Some.id ∷ ids) (sym (walked (rest at))),
      ap (λ (w : Waiting). w.slots) c.self.view_is,
    )
