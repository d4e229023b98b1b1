use Rattle.std.proofs.Common.{◌∙◌, length, ap, arith, sym}
use Rattle.std.proofs.lemmas.List.{take_all}
use Rattle.fm_operations.proofs.Words.{last_place}
use Rattle.fm_operations.proofs.Placing.{placed_back, placed_here, placed_before}
use Rattle.fm_operations.proofs.entries.last_place.Goals as goal

pub loop-count-init : goal.loop-count-init
loop-count-init c = (omega arith, ap last_place (sym (take_all (length c.args.entries.now) c.args.entries.now (omega arith))))

pub returns-then-is_some : goal.returns-then-is_some
returns-then-is_some c =
    placed_here c.place_of-place.result _ _
    (placed_back c.args.entries.now c.loop-count.count _ c.place_of-place.result c.loop-count-test.true c.loop-count.invariant.0
    c.loop-count.invariant.1 c.place_of-place.ensures)
    (sym c.is_some.ensures ∙ c.if-is_some.true)

pub loop-count-preserved : goal.loop-count-preserved
loop-count-preserved c = (
  omega (arith, c.loop-count.invariant.0),
  placed_before c.place_of-place.result _ _
      (placed_back c.args.entries.now c.loop-count.count _ c.place_of-place.result c.loop-count-test.true c.loop-count.invariant.0
      c.loop-count.invariant.1 c.place_of-place.ensures)
      (sym c.is_some.ensures ∙ c.if-is_some.false),
)
