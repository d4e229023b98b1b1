use Rattle.fm_wire.proofs.Words.{refl, sym, inr, Operation}
use Rattle.fm_callback_data.specs.declared.request.Request.TheVariants as request
use Rattle.fm_wire.proofs.Parts.{refuted}
use Rattle.fm_wire.proofs.reading.requests.read_create.Goals as goal

pub returns-in_ok-new-in-Ok-read-clause-ok : goal.returns-in_ok-new-in-Ok-read-clause-ok
returns-in_ok-new-in-Ok-read-clause-ok c =
    let read = c.in-Ok-read.ensures in
    let shared = c.in_ok-new-in-Ok-read.ensures in (
      Operation (request.Create (record { 0 = c.split_u8-volume.result.0 }) c.in_ok-new-in-Ok-read.field-0 c.in-Ok.mode),
      record {
        code_is = refl;
        fields_are = rw (shared, c.in-Ok.ensures.ok, read.value, ← c.split_u8-mode.ensures.spelled)
            (sym c.split_u8-volume.ensures.spelled);
        fits = c.split_u8-volume.ensures.small;
        limits = tt;
      },
      rw (shared, read.value) (read.accepted.0 refl),
      refl,
    )

pub returns-in-Err-read-clause-refused : goal.returns-in-Err-read-clause-refused
returns-in-Err-read-clause-refused c =
    let read = c.in-Err-read.ensures in
    inr (inr (
      Operation (request.Create (record { 0 = c.split_u8-volume.result.0 }) c.split_u8-mode.result.1.now c.in-Ok.mode),
      record {
        code_is = refl;
        fields_are = rw (c.in-Ok.ensures.ok, ← c.split_u8-mode.ensures.spelled)
            (sym c.split_u8-volume.ensures.spelled);
        fits = c.split_u8-volume.ensures.small;
        limits = tt;
      },
      (read.refused, refuted read.accepted.1),
    ))
