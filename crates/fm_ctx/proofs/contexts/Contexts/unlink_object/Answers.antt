use Rattle.std.proofs.Common.{◌∙◌}
use Rattle.fm_ctx.proofs.Words.{ContextsKept, sym, subst, ap, ℕ, length, last_below}
use Rattle.fm_ctx.specs.Sweep.{links_on}
use Rattle.fm_ctx.proofs.Sweeping.{SweptDown, down_none, down_on, down_more, down_all, on_within}
use Rattle.fm_ctx.proofs.Lasts.{last_falls}
use Rattle.fm_ctx.proofs.contexts.Contexts.unlink_object.Goals as goal

pub loop-next-init : goal.loop-next-init
loop-next-init c =
    let slots = c.args.self.now.table.slots in
    down_none c.args.object c.args.self.now c.next_on-next.result
    (c.next_on-next.ensures ∙ ap (λ (n : ℕ). last_below (links_on slots n) (length slots)) c.chain_to-chain.ensures.chain)

pub next_on-next-requires-in-Some-clause-above : goal.next_on-next-requires-in-Some-clause-above
next_on-next-requires-in-Some-clause-above c =
    ap (λ (n : ℕ). links_on c.loop-next.self.table.slots n c.in-Some.slot) c.chain_to-chain.ensures.chain
    ∙ down_on c.loop-next.invariant c.in-Some.slot c.in-Some.is

pub sweep_slot-requires : goal.sweep_slot-requires
sweep_slot-requires c = on_within c.args.object c.loop-next.self.table.slots c.in-Some.slot (down_on c.loop-next.invariant c.in-Some.slot c.in-Some.is)

pub loop-next-smaller : goal.loop-next-smaller
loop-next-smaller c =
    last_falls (links_on c.loop-next.self.table.slots c.chain_to-chain.result) c.in-Some.slot c.next_on-next-in-Some.result
    c.loop-next.next c.in-Some.is c.next_on-next-in-Some.ensures

pub loop-next-preserved : goal.loop-next-preserved
loop-next-preserved c =
    subst (λ (k : ContextsKept). SweptDown c.args.object c.args.self.now k c.next_on-next-in-Some.result) (sym c.sweep_slot.ensures)
    (down_more c.loop-next.invariant c.in-Some.slot c.next_on-next-in-Some.result c.in-Some.is (c.next_on-next-in-Some.ensures
    ∙ ap (λ (n : ℕ). last_below (links_on c.loop-next.self.table.slots n) c.in-Some.slot) c.chain_to-chain.ensures.chain))

pub returns-clause-table : goal.returns-clause-table
returns-clause-table c = down_all c.loop-next.invariant c.in_default.is
