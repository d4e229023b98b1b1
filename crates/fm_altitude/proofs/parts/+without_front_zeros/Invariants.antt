use Rattle.std.proofs.Common.{length}
use Rattle.fm_altitude.proofs.parts.+without_front_zeros.Given as goal

abbrev pub decreases-without_front_zeros : goal.decreases-without_front_zeros
decreases-without_front_zeros l = length l.digits.now
