use Rattle.std.proofs.Common.{length}
use Rattle.fm_altitude.proofs.parts.+without_back_zeros.Given as goal

abbrev pub decreases-without_back_zeros : goal.decreases-without_back_zeros
decreases-without_back_zeros l = length l.digits.now
