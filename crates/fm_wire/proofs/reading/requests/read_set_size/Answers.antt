use Rattle.fm_wire.proofs.Words.{refl, arith, inl, Operation}
use Rattle.fm_callback_data.specs.declared.request.FileRequest.TheVariants as file
use Rattle.fm_callback_data.specs.declared.request.Request.TheVariants as request
use Rattle.fm_wire.proofs.Parts.{joined_two}
use Rattle.fm_wire.proofs.Forms.{request_of_wrong_size}
use Rattle.fm_wire.proofs.reading.requests.read_set_size.Goals as goal

pub returns-then-fields-ne16 : goal.returns-then-fields-ne16
returns-then-fields-ne16 c = inl (refl, request_of_wrong_size 5 c.args.fields.now (omega arith) (λ e. omega arith) (λ e. omega arith) c.if-fields-ne16.true)

pub returns : goal.returns
returns c =
    let handle = c.split_u64-handle.ensures in
    let size = c.split_u64-size.ensures in (
      Operation (request.OnHandle (record { 0 = c.split_u64-handle.result.0 }) (file.SetSize c.split_u64-size.result.0)),
      record {
        code_is = refl;
        fields_are = joined_two _ _ _ _ c.split_u64-size.result.1.now handle.spelled size.spelled
            (omega arith);
        fits = (handle.small, size.small);
        limits = tt;
      },
      tt,
      refl,
    )
