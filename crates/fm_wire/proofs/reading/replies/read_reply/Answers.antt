use Rattle.fm_wire.proofs.Words.{length, refl, sym, arith, inl, inr, Reply, length-append, bytes_of_u64}
use Rattle.std.proofs.Common.{◌≡◌, ◌+◌, ◌∙◌}
use Rattle.fm_callback_data.specs.declared.request.Reply.TheVariants as reply
use Rattle.fm_wire.proofs.Forms.{no_reply}
use Rattle.fm_wire.proofs.Bytes.{length-u64}
use Rattle.fm_wire.proofs.Parts.{count_of_busy}
use Rattle.fm_wire.proofs.reading.replies.read_reply.Goals as goal

pub returns-then-fields-lt9-clause-refused : goal.returns-then-fields-lt9-clause-refused
returns-then-fields-lt9-clause-refused c =
    inr (inl (
      refl,
      no_reply c.args.fields.now (λ status information bytes e.
          let len : length c.args.fields.now ≡ 9 + length bytes =
          rw e (omega (arith, length-append (bytes_of_u64 information) bytes, length-u64 information)) in
          omega arith),
    ))

pub returns-in_ok-copy_of-in-Some-clause-ok : goal.returns-in_ok-copy_of-in-Some-clause-ok
returns-in_ok-copy_of-in-Some-clause-ok c =
    let status = c.in-Some.ensures in
    let split = c.split_u64-information.ensures in (
      Reply (reply.Done c.in-Some.status c.split_u64-information.result.0 c.in_ok-copy_of-in-Some.field-0),
      record {
        code_is = refl;
        fields_are = rw (status.number, c.in_ok-copy_of-in-Some.ensures, ← split.spelled)
            (sym c.split_u8-number.ensures.spelled);
        fits = split.small;
        limits =
            λ busy. count_of_busy _ _ _ (sym status.number ∙ busy) status.information;
      },
      tt,
      refl,
    )
