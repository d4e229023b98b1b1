use Rattle.fm_local.proofs.Words.{StaysOut, WORKER}
use Rattle.fm_local.proofs.operations.ManagerTurns.{HasGone}
use Rattle.fm_local.proofs.operations.AnyTurns.{Turns}
use Rattle.fm_local.specs.Waits.{StaysApart}
use Rattle.fm_local.proofs.parts.Parts.carry.Given as goal

-- so many turns were made, and the worker is idle still
abbrev pub invariant-loop-made : goal.invariant-loop-made
invariant-loop-made g l =
    HasGone g.F.Minifilter g.B.Base WORKER l.operation l.fn.self l._made l.self
    × StaysOut WORKER l.fn.self.work.state l.self.work.state
    × Turns g.F.Minifilter g.B.Base WORKER l.operation l.fn.self l._made l.self
    × StaysApart l.operation l.fn.self l.self
