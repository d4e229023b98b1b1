use Rattle.fm_wire.proofs.Words.{refl, sym, arith, inl, inr, Operation}
use Rattle.fm_callback_data.specs.declared.request.FileRequest.TheVariants as file
use Rattle.fm_callback_data.specs.declared.request.Request.TheVariants as request
use Rattle.fm_wire.proofs.Forms.{no_write}
use Rattle.fm_wire.proofs.reading.requests.read_write.Goals.{then-fields-lt16-via-then-fields-lt16}
use Rattle.fm_wire.proofs.reading.requests.read_write.Goals.{then-fields-lt16-via-else-fields-lt16+then-fields}
use Rattle.fm_wire.proofs.reading.requests.read_write.Goals as goal

pub returns-then-fields-lt16-clause-refused : goal.returns-then-fields-lt16-clause-refused
returns-then-fields-lt16-clause-refused c =
    elim c.then-fields-lt16.branch [
      | then-fields-lt16-via-then-fields-lt16 w ↦ inr (inl (refl, no_write c.args.fields.now (inl w.if-fields-lt16.true)))
      | then-fields-lt16-via-else-fields-lt16+then-fields w ↦ inr (inl (refl, no_write c.args.fields.now (inr w.if-fields.true)))
    ]

pub returns-clause-ok : goal.returns-clause-ok
returns-clause-ok c =
    let handle = c.split_u64-handle.ensures in
    let offset = c.split_u64-offset.ensures in
    let copied = c.in_ok-copy_of.ensures in
    let long = c.if-fields.false in (
      Operation (request.OnHandle (record { 0 = c.split_u64-handle.result.0 })
          (file.Write c.split_u64-offset.result.0 c.in_ok-copy_of.field-0)),
      record {
        code_is = refl;
        fields_are = rw (copied, ← offset.spelled) (sym handle.spelled);
        fits = (handle.small, offset.small);
        limits = rw copied (omega arith);
      },
      tt,
      refl,
    )
