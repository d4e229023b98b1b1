use Rattle.fm_stack.proofs.Words.{is_on, stop_where}
use Rattle.std.proofs.Common.{◌∙◌, ap, arith, length, slice_set, sym}
use Rattle.std.proofs.lemmas.List.Edits.{map_over_more}
use Rattle.fm_stack.proofs.instance.stop_on.Goals as goal

pub loop-row-preserved : goal.loop-row-preserved
loop-row-preserved c =
    let change = stop_where (is_on c.args.volume) in
    let within = c.loop-row-test.true in
    let long = ap length c.deref_mut-row-items.ensures.value in
    ap (slice_set c.loop-row.row-items c.loop-row.row-index) (c.stop_on.ensures ∙ ap change (sym c.row-item.is))
    ∙ map_over_more change c.args.rows.now.items c.loop-row.row-items c.loop-row.row-index c.row-item.result (omega (arith, within, long)) c.loop-row.invariant
    c.row-item.is
