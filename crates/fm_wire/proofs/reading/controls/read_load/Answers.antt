use Rattle.fm_wire.proofs.Words.{refl, inr, Control}
use Rattle.fm_wire.specs.declared.frame.Control.TheVariants as control
use Rattle.fm_wire.proofs.Parts.{refuted}
use Rattle.fm_wire.proofs.reading.controls.read_load.Goals as goal

pub returns-in-Ok : goal.returns-in-Ok
returns-in-Ok c =
    let read = c.in-Ok.ensures in (
      Control (control.Load c.in-Ok.name),
      record { code_is = refl; fields_are = read.value; fits = tt; limits = tt },
      rw read.value (read.accepted.0 refl),
      refl,
    )

pub returns-in-Err : goal.returns-in-Err
returns-in-Err c =
    let read = c.in-Err.ensures in
    inr (
      Control (control.Load c.args.fields.now),
      record { code_is = refl; fields_are = refl; fits = tt; limits = tt },
      (read.refused, refuted read.accepted.1),
    )
