use Rattle.fm_wire.proofs.Words.{refl, inl, inr}
use Rattle.fm_wire.proofs.Parts.{attach_said, refuted}
use Rattle.fm_wire.proofs.reading.controls.read_attach.Goals as goal

pub returns-in-Err : goal.returns-in-Err
returns-in-Err c =
    let said = attach_said c.args.fields.now _ _ _ c.split_at.result.0.now c.split_at.result.1.now _ _ _ c.split_u8-filter.ensures.spelled
    c.split_u8-volume.ensures.spelled c.split_u8-len.ensures.spelled c.split_at.ensures.front c.split_at.ensures.back c.if-texts-len.false
    c.split_u8-filter.ensures.small c.split_u8-volume.ensures.small c.split_u8-len.ensures.small in
    inr (_, said, inl (c.in-Err.ensures.refused, refuted c.in-Err.ensures.accepted.1))

pub returns-in-Ok-read : goal.returns-in-Ok-read
returns-in-Ok-read c =
    let said = attach_said c.args.fields.now _ _ _ c.split_at.result.0.now c.split_at.result.1.now _ _ _ c.split_u8-filter.ensures.spelled
    c.split_u8-volume.ensures.spelled c.split_u8-len.ensures.spelled c.split_at.ensures.front c.split_at.ensures.back c.if-texts-len.false
    c.split_u8-filter.ensures.small c.split_u8-volume.ensures.small c.split_u8-len.ensures.small in
    (_, said, (c.in-Ok.ensures.accepted.0 refl, c.in-Ok-read.ensures.accepted.0 refl), rw (c.in-Ok.ensures.value, c.in-Ok-read.ensures.spelling) refl)

pub returns-in-Err-read : goal.returns-in-Err-read
returns-in-Err-read c =
    let said = attach_said c.args.fields.now _ _ _ c.split_at.result.0.now c.split_at.result.1.now _ _ _ c.split_u8-filter.ensures.spelled
    c.split_u8-volume.ensures.spelled c.split_u8-len.ensures.spelled c.split_at.ensures.front c.split_at.ensures.back c.if-texts-len.false
    c.split_u8-filter.ensures.small c.split_u8-volume.ensures.small c.split_u8-len.ensures.small in
    inr (_, said, inr (c.in-Err-read.ensures.refused, c.in-Ok.ensures.accepted.0 refl, refuted c.in-Err-read.ensures.accepted.1))
