use Rattle.fm_ctx.proofs.Words.{None, length, option_map, sym, ap, arith, length-map, CtxId, id_at, holder, slots_of, slot_of, carried_of, ContextsKept, seat_in, Seat, Some, is_seat}
use Rattle.std.proofs.Common.{◌∙◌}
use Rattle.std.proofs.lemmas.List.Quantifiers.{position-Some}
use Rattle.fm_ctx.proofs.Holders.{holder_linked}
use Rattle.fm_ctx.proofs.Counts.{count_linked_one}
use Rattle.fm_ctx.proofs.Seated.{seat_once, holder_seat}
use Rattle.fm_ctx.proofs.contexts.Contexts.find.Goals as goal

pub find-requires : goal.find-requires
find-requires c = seat_once c.args.owner c.args.object c.self.inside.rows c.self.invariant.seated
    (c.self.invariant.sound.lawful.once c.args.owner c.args.object)

pub returns-in_default-clause-found : goal.returns-in_default-clause-found
returns-in_default-clause-found c =
    let rows = c.self.inside.rows in
    ap (option_map (id_at (slots_of rows))) (sym c.in_default.is)
    ∙ holder_seat c.args.owner c.args.object rows c.find.result c.self.invariant.seated c.find.ensures
    ∙ ap (λ (k : ContextsKept). holder k.table.slots c.args.owner c.args.object) c.self.view_is

pub id_at-requires : goal.id_at-requires
id_at-requires c =
    let rows = c.self.inside.rows in
    let seats = c.self.inside.seats in
    let seat : Seat = record { owner = c.args.owner; object = c.args.object } in
    let within = (position-Some (is_seat seat) seats c.in-Some.slot None (sym c.find.ensures ∙ c.in-Some.is)).0 in
    omega (
      arith,
      within,
      ap length c.self.invariant.seated,
      length-map rows seat_in,
      length-map rows slot_of,
      ap (λ (k : ContextsKept). length k.table.slots) c.self.view_is,
    )

pub returns-clause-found : goal.returns-clause-found
returns-clause-found c =
    let rows = c.self.inside.rows in
    ap (λ (id : CtxId). Some id) (c.id_at.ensures ∙ ap (λ (k : ContextsKept). id_at k.table.slots c.in-Some.slot) (sym c.self.view_is))
    ∙ ap (option_map (id_at (slots_of rows))) (sym c.in-Some.is)
    ∙ holder_seat c.args.owner c.args.object rows c.find.result c.self.invariant.seated c.find.ensures
    ∙ ap (λ (k : ContextsKept). holder k.table.slots c.args.owner c.args.object) c.self.view_is

pub returns-clause-linked : goal.returns-clause-linked
returns-clause-linked c = holder_linked c.args.self.now.table.slots c.args.owner c.args.object c.id_at.result (sym (returns-clause-found c))

pub returns-clause-live : goal.returns-clause-live
returns-clause-live c = count_linked_one (carried_of c.args.self.now) c.args.self.now.table c.id_at.result (returns-clause-linked c)
