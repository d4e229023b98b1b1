use Rattle.fm_local.proofs.Words.{[], ◌≡◌, ℕ, numbered, StaysOut, WORKER}
use Rattle.fm_local.specs.Actions.{CallsBack}
use Rattle.fm_local.specs.Waits.{StaysWaiting}
use Rattle.fm_local.specs.Drains.{DrainsMany, left_to_drain}
use Rattle.fm_local.proofs.parts.Parts.drain_all.Given as goal

-- where nothing is under way nothing is drained, and else some were; and the worker is idle still
abbrev pub invariant-loop-instance : goal.invariant-loop-instance
invariant-loop-instance g l =
    (l.fn.self.work.state.flow.operations ≡ [] → l.self ≡ l.fn.self)
    × ((n : ℕ) × DrainsMany g.F.Minifilter.drained (numbered l.fn.self.filters) WORKER l.instance n l.fn.self.work.state l.self.work.state)
    × CallsBack l.fn.self l.self × StaysOut WORKER l.fn.self.work.state l.self.work.state × StaysWaiting l.fn.self l.self

-- each time one operation fewer is left to be drained
abbrev pub decreases-loop-instance : goal.decreases-loop-instance
decreases-loop-instance g l = left_to_drain l.instance l.self.work.state
