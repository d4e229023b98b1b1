use Rattle.fm_operations.proofs.Words.{ap, arith, InDrain, FlowRecord}
use Rattle.std.proofs.Common.{◌∙◌}
use Rattle.fm_operations.proofs.Returns.{sound_drain_returned}
use Rattle.fm_operations.proofs.Noted.{noted_drain, drain_lone}
use Rattle.fm_operations.proofs.Soundness.{at_stage}
use Rattle.fm_operations.proofs.operation_record.OperationRecord.drain_returned.Goals as goal

pub invariant_of-self : goal.invariant_of-self
invariant_of-self c =
    let stage = ap (λ (r : FlowRecord). r.stage) c.self.view_is ∙ c.requires in (
      rw (c.settle_drain.ensures.items) (sound_drain_returned c.args.instance _ stage c.self.invariant.0),
      (
        omega arith,
        (
          omega arith,
          (
            tt,
            (c.self.invariant.1.1.1.1.0, rw c.settle_drain.ensures.items (noted_drain _ _ c.self.invariant.1.1.1.1.1)),
          ),
        ),
      ),
    )

pub settle_drain-requires : goal.settle_drain-requires
settle_drain-requires c =
    let stage = ap (λ (r : FlowRecord). r.stage) c.self.view_is ∙ c.requires in drain_lone c.args.instance.0 _ ∙ (at_stage _
    (InDrain c.args.instance) stage c.self.invariant.0).0.drain
