use Rattle.fm_operations.proofs.Words.{ap, arith, FlowRecord}
use Rattle.std.proofs.Common.{◌∙◌}
use Rattle.fm_operations.proofs.Next.{sound_known}
use Rattle.fm_operations.proofs.Noted.{noted_base}
use Rattle.fm_operations.proofs.operation_record.OperationRecord.answer_known.Goals as goal

pub invariant_of-self : goal.invariant_of-self
invariant_of-self c =
    let stage = ap (λ (r : FlowRecord). r.stage) c.self.view_is ∙ c.requires in (
      rw (c.push_reserved.ensures.items, c.bare_answer.ensures) (sound_known c.args.status _ stage c.self.invariant.0),
      (
        omega arith,
        (
          omega arith,
          (
            tt,
            (c.self.invariant.1.1.1.1.0, rw c.push_reserved.ensures.items (noted_base _ c.self.invariant.1.1.1.1.1 _ _)),
          ),
        ),
      ),
    )
