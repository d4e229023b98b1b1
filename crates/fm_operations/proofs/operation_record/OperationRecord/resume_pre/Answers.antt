use Rattle.fm_operations.proofs.Words.{ap, subst, refl, arith, is_open, PreHeld, FlowRecord, HasPath}
use Rattle.std.proofs.Common.{◌∙◌}
use Rattle.fm_operations.proofs.Returns.{path_down}
use Rattle.fm_operations.proofs.Resumes.{sound_pre_resumed}
use Rattle.fm_operations.proofs.Noted.{noted_pre, open_lone, owed_few, due_inside}
use Rattle.fm_operations.proofs.Soundness.{at_stage}
use Rattle.fm_operations.proofs.operation_record.OperationRecord.resume_pre.Goals as goal

pub invariant_of-self : goal.invariant_of-self
invariant_of-self c =
    let stage = ap (λ (r : FlowRecord). r.stage) c.self.view_is ∙ c.requires.stage in
    let path = subst (λ s. HasPath s c.self.inside.path c.self.inside.lent_path) stage c.self.invariant.1.1.1.0 in
    let course = (at_stage _ PreHeld stage c.self.invariant.0).0 in (
      rw (c.settle_pre-place.ensures.items, c.pre_leads-self-inside.ensures, c.complete.ensures)
          (sound_pre_resumed c.args.state _ stage c.requires.counted c.self.invariant.0),
      (
        omega arith,
        (
          omega arith,
          (
            rw c.pre_leads-self-inside.ensures (path_down c.args.state c.self.inside.path c.self.inside.lent_path path),
            (
              c.self.invariant.1.1.1.1.0,
              rw (c.note.ensures, c.asks.ensures, c.settle_pre-place.ensures.items)
                  (noted_pre PreHeld _ c.args.state _ refl course c.settle_pre-place.ensures.place c.self.invariant.1.1.1.1.1),
            ),
          ),
        ),
      ),
    )

pub settle_pre-place-requires : goal.settle_pre-place-requires
settle_pre-place-requires c =
    let stage = ap (λ (r : FlowRecord). r.stage) c.self.view_is ∙ c.requires.stage in open_lone PreHeld _
    (at_stage _ PreHeld stage c.self.invariant.0).0 refl refl

pub note-requires : goal.note-requires
note-requires c =
    let stage = ap (λ (r : FlowRecord). r.stage) c.self.view_is ∙ c.requires.stage in
    let course = (at_stage _ PreHeld stage c.self.invariant.0).0 in
    record {
      room = omega (arith, owed_few PreHeld _ course c.self.invariant.1.1.1.1.1, course.few);
      small = omega (arith, due_inside is_open c.self.inside.entries.items _ c.settle_pre-place.ensures.place, course.room);
    }
