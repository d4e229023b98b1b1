use Rattle.std.proofs.Common.{◌∙◌}
use Rattle.fm_ctx.proofs.Words.{length, ap, arith, length-map, ContextsKept, seat_in, slot_of, link_test, passes, context_of_slot}
use Rattle.fm_ctx.proofs.Sweeping.{seat_among}
use Rattle.fm_ctx.proofs.contexts.Contexts.is_among.Goals as goal

pub is_among-requires : goal.is_among-requires
is_among-requires c =
    let rows = c.self.inside.rows in
    let seats = ap length c.self.invariant.seated in
    omega (arith, c.requires, seats, length-map rows seat_in, length-map rows slot_of, ap (λ (k : ContextsKept). length k.table.slots) c.self.view_is)

pub returns : goal.returns
returns c =
    c.is_among.ensures ∙ seat_among c.self.inside.rows c.args.links c.args.slot c.self.invariant.seated
    ∙ ap (λ (k : ContextsKept). passes (link_test c.args.links) (context_of_slot k.table.slots c.args.slot)) c.self.view_is
