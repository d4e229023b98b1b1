use Rattle.fm_wire.proofs.Words.{refl, arith, inl, Operation}
use Rattle.fm_callback_data.specs.declared.request.FileRequest.TheVariants as file
use Rattle.fm_callback_data.specs.declared.request.Request.TheVariants as request
use Rattle.fm_wire.proofs.Parts.{joined_three, same_length}
use Rattle.fm_wire.proofs.Forms.{request_of_wrong_size, no_read}
use Rattle.fm_wire.proofs.reading.requests.read_read.Goals as goal

pub returns-then-fields-ne20 : goal.returns-then-fields-ne20
returns-then-fields-ne20 c = inl (refl, request_of_wrong_size 2 c.args.fields.now (omega arith) (λ e. omega arith) (λ e. omega arith) c.if-fields-ne20.true)

pub returns-then-len-gt-TRANSFER : goal.returns-then-len-gt-TRANSFER
returns-then-len-gt-TRANSFER c =
    let handle = c.split_u64-handle.ensures in
    let offset = c.split_u64-offset.ensures in
    let len = c.split_u32-len.ensures in
    inl (
      refl,
      no_read c.args.fields.now (λ h o l e limit.
          let same = same_length c.args.fields.now _ _ _ _ _ c.split_u32-len.result.0 h o l handle.spelled offset.spelled len.spelled e
          len.small (omega arith) in
          omega (arith, same, c.if-len-gt-TRANSFER.true)),
    )

pub returns : goal.returns
returns c =
    let handle = c.split_u64-handle.ensures in
    let offset = c.split_u64-offset.ensures in
    let len = c.split_u32-len.ensures in (
      Operation (request.OnHandle (record { 0 = c.split_u64-handle.result.0 })
          (file.Read c.split_u64-offset.result.0 c.split_u32-len.result.0)),
      record {
        code_is = refl;
        fields_are = joined_three _ _ _ _ _ _ c.split_u32-len.result.1.now handle.spelled offset.spelled
            len.spelled (omega arith);
        fits = (handle.small, (offset.small, len.small));
        limits = c.if-len-gt-TRANSFER.false;
      },
      tt,
      refl,
    )
