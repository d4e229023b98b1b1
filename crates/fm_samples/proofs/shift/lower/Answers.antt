use Rattle.std.proofs.Common.{arith}
use Rattle.fm_samples.specs.Shift.{lowered_byte}
use Rattle.fm_samples.proofs.Lowering.{changed_next}
use Rattle.fm_samples.proofs.shift.lower.Goals as goal

pub loop-place-preserved : goal.loop-place-preserved
loop-place-preserved c = let e = changed_next lowered_byte c.args.lent.now.out c.loop-place.place (grind arith) in grind (arith, e)
