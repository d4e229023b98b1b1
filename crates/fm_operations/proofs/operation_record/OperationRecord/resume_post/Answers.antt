use Rattle.fm_operations.proofs.Words.{ap, refl, arith, PostHeld, FlowRecord}
use Rattle.std.proofs.Common.{◌∙◌}
use Rattle.fm_operations.proofs.Resumes.{sound_post_resumed}
use Rattle.fm_operations.proofs.Noted.{noted_post, open_lone}
use Rattle.fm_operations.proofs.Soundness.{at_stage}
use Rattle.fm_operations.proofs.operation_record.OperationRecord.resume_post.Goals as goal

pub invariant_of-self : goal.invariant_of-self
invariant_of-self c =
    let stage = ap (λ (r : FlowRecord). r.stage) c.self.view_is ∙ c.requires in
    let course = (at_stage _ PostHeld stage c.self.invariant.0).0 in (
      rw c.settle_post.ensures.items (sound_post_resumed _ stage c.self.invariant.0),
      (
        omega arith,
        (
          omega arith,
          (
            tt,
            (
              c.self.invariant.1.1.1.1.0,
              rw c.settle_post.ensures.items (noted_post PostHeld _ _ refl course c.self.invariant.1.1.1.1.1),
            ),
          ),
        ),
      ),
    )

pub settle_post-requires : goal.settle_post-requires
settle_post-requires c =
    let stage = ap (λ (r : FlowRecord). r.stage) c.self.view_is ∙ c.requires in open_lone PostHeld _
    (at_stage _ PostHeld stage c.self.invariant.0).0 refl refl
