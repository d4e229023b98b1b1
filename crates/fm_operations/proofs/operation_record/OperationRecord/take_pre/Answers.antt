use Rattle.fm_operations.proofs.Words.{ap, subst, refl, arith, is_open, PreRunning, FlowRecord, HasPath, data_fits}
use Rattle.std.proofs.Common.{◌∙◌}
use Rattle.fm_operations.proofs.Returns.{path_down}
use Rattle.fm_operations.proofs.Returns.{sound_pre_returned}
use Rattle.fm_operations.proofs.Noted.{noted_pre, open_lone, owed_few, due_inside}
use Rattle.fm_operations.proofs.Soundness.{at_stage}
use Rattle.fm_operations.proofs.operation_record.OperationRecord.take_pre.Goals as goal

pub invariant_of-self : goal.invariant_of-self
invariant_of-self c =
    let stage = ap (λ (r : FlowRecord). r.stage) c.self.view_is ∙ c.requires.stage in
    let path = subst (λ s. HasPath s c.self.inside.path c.self.inside.lent_path) stage c.self.invariant.1.1.1.0 in
    let fits = ap (λ (r : FlowRecord). data_fits r.operation r.path c.args.lent) c.self.view_is ∙ c.requires.fits in
    let course = (at_stage _ PreRunning stage c.self.invariant.0).0 in (
      rw (c.settle_pre-place.ensures.items, c.pre_leads-self-inside.ensures, c.complete.ensures, c.keep.ensures.items, c.keep.ensures.data)
          (sound_pre_returned c.args.state c.args.lent _ stage c.requires.counted fits c.self.invariant.0),
      (
        omega arith,
        (
          omega arith,
          (
            rw c.pre_leads-self-inside.ensures (path_down c.args.state c.self.inside.path c.self.inside.lent_path path),
            (
              rw c.keep.ensures.data refl,
              rw (c.note.ensures, c.asks.ensures, c.settle_pre-place.ensures.items)
                  (noted_pre PreRunning _ c.args.state _ refl course c.settle_pre-place.ensures.place c.self.invariant.1.1.1.1.1),
            ),
          ),
        ),
      ),
    )

pub settle_pre-place-requires : goal.settle_pre-place-requires
settle_pre-place-requires c =
    let stage = ap (λ (r : FlowRecord). r.stage) c.self.view_is ∙ c.requires.stage in open_lone PreRunning _
    (at_stage _ PreRunning stage c.self.invariant.0).0 refl refl

pub note-requires : goal.note-requires
note-requires c =
    let stage = ap (λ (r : FlowRecord). r.stage) c.self.view_is ∙ c.requires.stage in
    let course = (at_stage _ PreRunning stage c.self.invariant.0).0 in
    record {
      room = omega (arith, owed_few PreRunning _ course c.self.invariant.1.1.1.1.1, course.few);
      small = omega (arith, due_inside is_open c.self.inside.entries.items _ c.settle_pre-place.ensures.place, course.room);
    }
