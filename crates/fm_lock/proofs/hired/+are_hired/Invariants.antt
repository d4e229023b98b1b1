use Rattle.std.proofs.Common.{length}
use Rattle.fm_lock.proofs.hired.+are_hired.Given as goal

-- proposed from what the function passes where it calls itself
abbrev pub decreases-are_hired : goal.decreases-are_hired
decreases-are_hired g l = length l.hands.now
