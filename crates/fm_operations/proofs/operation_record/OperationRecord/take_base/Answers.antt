use Rattle.fm_operations.proofs.Words.{ap, refl, arith, FlowRecord, base_fits}
use Rattle.std.proofs.Common.{◌∙◌}
use Rattle.fm_operations.proofs.Returns.{sound_base}
use Rattle.fm_operations.proofs.Noted.{noted_base}
use Rattle.fm_operations.proofs.operation_record.OperationRecord.take_base.Goals as goal

pub invariant_of-self : goal.invariant_of-self
invariant_of-self c =
    let stage = ap (λ (r : FlowRecord). r.stage) c.self.view_is ∙ c.requires.stage in
    let fits = ap (λ (r : FlowRecord). base_fits c.args.call c.args.answer r) c.self.view_is ∙ c.requires.fits in (
      rw (
        c.push_reserved.ensures.items,
        c.base_counted-answer.ensures,
        c.handle_given-self-inside.ensures,
        c.into_data.ensures,
        c.params.ensures,
        c.params-2.ensures,
      )
          (sound_base c.args.call c.args.answer c.args.handle _ stage fits c.self.invariant.0),
      (
        omega arith,
        (
          omega arith,
          (
            tt,
            (rw c.into_data.ensures refl, rw c.push_reserved.ensures.items (noted_base _ c.self.invariant.1.1.1.1.1 _ _)),
          ),
        ),
      ),
    )
