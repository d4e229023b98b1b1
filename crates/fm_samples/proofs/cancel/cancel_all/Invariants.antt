use Rattle.std.proofs.Common.{◌≡◌}
use Rattle.fm_samples.proofs.cancel.cancel_all.Given as goal

-- what the port keeps is the same
abbrev pub invariant-loop-gone : goal.invariant-loop-gone
invariant-loop-gone g l = g.P.Port.kept l.port ≡ g.P.Port.kept l.initial.port
