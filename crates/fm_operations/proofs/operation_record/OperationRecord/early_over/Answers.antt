use Rattle.fm_operations.proofs.Words.{arith, FlowRecord, Some, subst}
use Rattle.std.proofs.Common.{◌∙◌, sym}
use Rattle.fm_operations.specs.Drains.{RunsEarly}
use Rattle.fm_operations.proofs.Drains.{sound_over}
use Rattle.fm_operations.proofs.Noted.{noted_drain, drain_lone}
use Rattle.fm_operations.proofs.operation_record.OperationRecord.early_over.Goals as goal

pub invariant_of-self : goal.invariant_of-self
invariant_of-self c =
    let runs = subst (λ (r : FlowRecord). RunsEarly c.args.instance (Some r)) (sym c.self.view_is) c.requires in (
      rw (c.settle_drain.ensures.items) (sound_over c.args.instance _ runs c.self.invariant.0),
      (
        omega arith,
        (
          omega arith,
          (
            c.self.invariant.1.1.1.0,
            (c.self.invariant.1.1.1.1.0, rw c.settle_drain.ensures.items (noted_drain _ _ c.self.invariant.1.1.1.1.1)),
          ),
        ),
      ),
    )

pub settle_drain-requires : goal.settle_drain-requires
settle_drain-requires c =
    drain_lone c.args.instance.0 _ ∙ (subst (λ (r : FlowRecord). RunsEarly c.args.instance (Some r)) (sym c.self.view_is) c.requires).0
