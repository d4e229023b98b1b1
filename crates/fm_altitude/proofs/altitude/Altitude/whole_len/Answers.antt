use Rattle.fm_altitude.proofs.Grammar.{whole_within}
use Rattle.fm_altitude.proofs.altitude.Altitude.whole_len.Goals as goal

pub returns-clause-within : goal.returns-clause-within
returns-clause-within c = rw (← c.self.view_is, ← c.self.invariant.front) (whole_within _ c.self.invariant.spelling)
