use Rattle.fm_ctx.proofs.Words.{ap, arith, nat_tests, ContextsKept, is_out_of_slots, length-map, slot_of}
use Rattle.fm_ctx.proofs.contexts.Contexts.is_out_of_slots.Goals as goal

pub returns-then-len-ge-CONTEXTS : goal.returns-then-len-ge-CONTEXTS
unfolding is_out_of_slots
returns-then-len-ge-CONTEXTS c =
    let told = ap (λ (k : ContextsKept). is_out_of_slots k.table.slots) c.self.view_is in
    grind (arith, nat_tests, told, c.len.ensures, c.if-len-ge-CONTEXTS.true, length-map c.self.inside.rows slot_of, c.has_none_free.ensures)

pub returns-else-len-ge-CONTEXTS : goal.returns-else-len-ge-CONTEXTS
unfolding is_out_of_slots
returns-else-len-ge-CONTEXTS c =
    let told = ap (λ (k : ContextsKept). is_out_of_slots k.table.slots) c.self.view_is in
    grind (arith, nat_tests, told, c.len.ensures, c.if-len-ge-CONTEXTS.false, length-map c.self.inside.rows slot_of)
