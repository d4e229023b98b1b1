use Rattle.std.proofs.Common.{length}
use Rattle.fm_lock.proofs.audit.+audit.Given as goal

-- proposed from what the function passes where it calls itself
abbrev pub decreases-audit : goal.decreases-audit
decreases-audit g l = length l.hands.now
