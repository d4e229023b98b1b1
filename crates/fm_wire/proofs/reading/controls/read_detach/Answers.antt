use Rattle.fm_wire.proofs.Words.{refl, arith, inl, Control}
use Rattle.fm_wire.specs.declared.frame.Control.TheVariants as control
use Rattle.fm_wire.proofs.Parts.{joined}
use Rattle.fm_wire.proofs.Forms.{control_of_wrong_size}
use Rattle.fm_wire.proofs.reading.controls.read_detach.Goals as goal

pub returns-then-fields-ne2 : goal.returns-then-fields-ne2
returns-then-fields-ne2 c = inl (
  refl,
  control_of_wrong_size 18 c.args.fields.now (omega arith) (omega arith) (λ e. omega arith)
      (λ e. omega arith) c.if-fields-ne2.true,
)

pub returns : goal.returns
returns c =
    let split = c.split_u16-instance.ensures in (
      Control (control.Detach (record { 0 = c.split_u16-instance.result.0 })),
      record { code_is = refl; fields_are = joined _ _ _ split.spelled (omega arith); fits = split.small; limits = tt },
      tt,
      refl,
    )
