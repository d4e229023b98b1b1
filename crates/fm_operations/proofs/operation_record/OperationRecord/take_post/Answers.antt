use Rattle.fm_operations.proofs.Words.{ap, arith, refl, PostRunning, FlowRecord, data_fits, post_state}
use Rattle.std.proofs.Common.{◌∙◌}
use Rattle.fm_operations.proofs.Returns.{path_up}
use Rattle.fm_operations.proofs.Returns.{sound_post_returned}
use Rattle.fm_operations.proofs.Noted.{noted_post, open_lone}
use Rattle.fm_operations.proofs.Soundness.{at_stage}
use Rattle.fm_operations.proofs.operation_record.OperationRecord.take_post.Goals as goal

pub invariant_of-self : goal.invariant_of-self
invariant_of-self c =
    let stage = ap (λ (r : FlowRecord). r.stage) c.self.view_is ∙ c.requires.stage in
    let fits = ap (λ (r : FlowRecord). data_fits r.operation r.path c.args.lent) c.self.view_is ∙ c.requires.fits in
    let course = (at_stage _ PostRunning stage c.self.invariant.0).0 in (
      rw (
        c.settle_post.ensures.items,
        c.post_leads-self-inside.ensures,
        c.post_state-state.ensures,
        c.take_answer.ensures,
        c.take_answer-answer.ensures.answer,
        c.take_answer-answer.ensures.after,
      )
          (sound_post_returned c.args.verdict c.args.lent _ stage fits c.self.invariant.0),
      (
        omega arith,
        (
          omega arith,
          (
            rw (c.post_leads-self-inside.ensures, c.post_state-state.ensures) (path_up
                (post_state c.args.verdict) c.self.inside.path c.self.inside.lent_path),
            (
              rw c.take_answer-answer.ensures.after refl,
              rw c.settle_post.ensures.items (noted_post PostRunning _ _ refl course c.self.invariant.1.1.1.1.1),
            ),
          ),
        ),
      ),
    )

pub settle_post-requires : goal.settle_post-requires
settle_post-requires c =
    let stage = ap (λ (r : FlowRecord). r.stage) c.self.view_is ∙ c.requires.stage in open_lone PostRunning _
    (at_stage _ PostRunning stage c.self.invariant.0).0 refl refl
