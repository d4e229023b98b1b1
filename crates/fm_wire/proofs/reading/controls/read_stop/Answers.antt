use Rattle.fm_wire.proofs.Words.{length, refl, sym, arith, Control, nil_from_length}
use Rattle.std.proofs.Common.{◌≡◌}
use Rattle.fm_wire.specs.declared.frame.Control.TheVariants as control
use Rattle.std.proofs.lemmas.Bool.Decides.{nat_tests}
use Rattle.fm_wire.proofs.reading.controls.read_stop.Goals as goal

pub returns : goal.returns
returns c =
    let empty : length c.args.fields.now ≡ 0 = grind (arith, nat_tests, c.if-not-is_empty.ensures) in
    (Control control.Stop, record { code_is = refl; fields_are = sym (nil_from_length c.args.fields.now empty); fits = tt; limits = tt }, tt, refl)
