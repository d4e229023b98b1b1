use Rattle.std.proofs.Common.{◌≡◌}
use Rattle.fm_samples.specs.Calls.{ResumesMany}
use Rattle.fm_samples.proofs.common.resume_all.Given as goal

-- so many went on, and what the port keeps is the same
abbrev pub invariant-loop-gone : goal.invariant-loop-gone
invariant-loop-gone g l = ResumesMany g.P.Port l.held l._gone l.initial.port l.port × (g.P.Port.kept l.port ≡ g.P.Port.kept l.initial.port)
