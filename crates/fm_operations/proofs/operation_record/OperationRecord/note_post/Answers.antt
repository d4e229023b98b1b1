use Rattle.fm_operations.proofs.Words.{ap, arith, refl, owed, Ascending, FlowRecord, slice_get}
use Rattle.std.proofs.Common.{◌∙◌}
use Rattle.fm_operations.proofs.Next.{sound_passed_up, head_of}
use Rattle.fm_operations.proofs.Noted.{noted_answer}
use Rattle.fm_operations.proofs.Soundness.{at_stage}
use Rattle.fm_operations.proofs.operation_record.OperationRecord.note_post.Goals as goal

pub invariant_of-self : goal.invariant_of-self
invariant_of-self c =
    let stage = ap (λ (r : FlowRecord). r.stage) c.self.view_is ∙ c.requires.stage in
    let next = head_of _ c.args.ask (ap (λ (r : FlowRecord). slice_get (owed r.entries) 0) c.self.view_is ∙ c.requires.next) in
    let course = (at_stage _ Ascending stage c.self.invariant.0).0 in (
      rw (c.answer.ensures.items, stage) (sound_passed_up c.args.worker c.args.ask _ _ stage next c.requires.may c.self.invariant.0),
      (
        omega arith,
        (
          omega arith,
          (
            c.self.invariant.1.1.1.0,
            (
              c.self.invariant.1.1.1.1.0,
              rw (c.answer.ensures.items, c.answer.ensures.owed)
                  (noted_answer _ c.self.invariant.1.1.1.1.1 Ascending _ c.args.ask _ course next refl refl (λ j. refl)),
            ),
          ),
        ),
      ),
    )
