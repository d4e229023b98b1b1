use Rattle.std.proofs.Common.{◌∙◌, length, ap, arith, sym}
use Rattle.std.proofs.lemmas.List.{take_all}
use Rattle.fm_operations.proofs.Words.{last_posted}
use Rattle.fm_operations.proofs.Noted.{posted_back, posted_here, posted_before}
use Rattle.fm_operations.proofs.entries.last_posted.Goals as goal

pub loop-place-init : goal.loop-place-init
loop-place-init c = (omega arith, ap last_posted (sym (take_all (length c.args.entries.now) c.args.entries.now (omega arith))))

pub returns-then-is_some : goal.returns-then-is_some
returns-then-is_some c =
    posted_here c.post_of-posted.result _ _
    (posted_back c.args.entries.now c.loop-place.place _ c.post_of-posted.result c.loop-place-test.true c.loop-place.invariant.0
    c.loop-place.invariant.1 c.post_of-posted.ensures)
    (sym c.is_some.ensures ∙ c.if-is_some.true)

pub loop-place-preserved : goal.loop-place-preserved
loop-place-preserved c = (
  omega (arith, c.loop-place.invariant.0),
  posted_before c.post_of-posted.result _ _
      (posted_back c.args.entries.now c.loop-place.place _ c.post_of-posted.result c.loop-place-test.true c.loop-place.invariant.0
      c.loop-place.invariant.1 c.post_of-posted.ensures)
      (sym c.is_some.ensures ∙ c.if-is_some.false),
)
