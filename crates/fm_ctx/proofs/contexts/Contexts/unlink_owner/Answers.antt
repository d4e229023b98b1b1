use Rattle.std.proofs.Common.{◌+◌, ◌<◌}
use Rattle.fm_ctx.proofs.Words.{sym, subst, arith, ContextsKept}
use Rattle.fm_ctx.specs.declared.seat.Links.TheVariants.{Of}
use Rattle.fm_ctx.proofs.Sweeping.{SweptWhere, where_none, upto_more, upto_all, length-swept}
use Rattle.fm_ctx.proofs.contexts.Contexts.unlink_owner.Goals as goal

pub loop-slot-init : goal.loop-slot-init
loop-slot-init c = record { swept = where_none (Of c.args.owner) c.args.self.now; all = c.slots-slot-end.ensures }

pub sweep_slot-requires : goal.sweep_slot-requires
sweep_slot-requires c = omega (arith, length-swept c.loop-slot.invariant.swept.swept, c.loop-slot.invariant.all, c.loop-slot-test.true)

pub loop-slot-preserved : goal.loop-slot-preserved
loop-slot-preserved c = record {
  swept = subst (λ (k : ContextsKept). SweptWhere (Of c.args.owner) c.args.self.now k (λ j. j < c.loop-slot.slot + 1))
      (sym c.sweep_slot.ensures) (upto_more c.loop-slot.invariant.swept);
  all = c.loop-slot.invariant.all;
}

pub returns-clause-table : goal.returns-clause-table
returns-clause-table c =
    upto_all c.loop-slot.invariant.swept
    (omega (arith, c.loop-slot.invariant.all, c.loop-slot-test.false, length-swept c.loop-slot.invariant.swept.swept))
