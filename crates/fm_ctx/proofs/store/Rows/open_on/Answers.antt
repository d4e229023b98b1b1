use Rattle.fm_ctx.proofs.Words.{length, sym, ap, arith, one, Row, slot_of}
use Rattle.std.proofs.Common.{◌<◌, ◌∙◌, count_by}
use Rattle.std.proofs.lemmas.List.{take_all}
use Rattle.fm_ctx.specs.Counting.{is_open_on}
use Rattle.fm_ctx.specs.Rows.{vacant_row}
use Rattle.fm_ctx.proofs.Stored.{counted_more}
use Rattle.fm_ctx.proofs.store.Rows.open_on.Goals.{then-is_open_on, else-is_open_on}
use Rattle.fm_ctx.proofs.store.Rows.open_on.Goals as goal

pub loop-slot-preserved : goal.loop-slot-preserved
loop-slot-preserved c =
    let test = λ (r : Row). is_open_on c.args.volume (slot_of r).context in
    let so_far = c.loop-slot.invariant in
    let d = vacant_row 0 in
    let within : c.loop-slot.slot < length c.args.self.now = omega (arith, c.loop-slot-test.true, c.len-slot-end.ensures) in
    let more = counted_more test c.args.self.now c.loop-slot.slot d within in
    elim c.if-is_open_on.branch [
      | then-is_open_on w ↦ record {
        count = omega (
          arith,
          w.count-is,
          so_far.count,
          more,
          ap one (sym (c.is_open_on.ensures d) ∙ w.if-is_open_on.true),
        );
        few = omega (arith, w.count-is, so_far.few);
      }
      | else-is_open_on w ↦ record {
        count = omega (
          arith,
          w.count-is,
          so_far.count,
          more,
          ap one (sym (c.is_open_on.ensures d) ∙ w.if-is_open_on.false),
        );
        few = omega (arith, w.count-is, so_far.few);
      }
    ]

pub returns : goal.returns
returns c =
    let test = λ (r : Row). is_open_on c.args.volume (slot_of r).context in
    c.loop-slot.invariant.count ∙ ap (count_by test) (take_all c.loop-slot.slot c.args.self.now (omega (arith, c.loop-slot-test.false, c.len-slot-end.ensures)))
