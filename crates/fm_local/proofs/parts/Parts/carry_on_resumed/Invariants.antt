use Rattle.fm_local.proofs.Words.{[], ◌∷◌, ◌≡◌, ◌⊎◌, OpId, ◌++◌, StaysOut, WORKER, TURNS}
use Rattle.fm_local.specs.Actions.{CarriesOnMany, WaitsAtEnd}
use Rattle.fm_local.specs.Waits.{StaysWaiting}
use Rattle.fm_local.proofs.parts.Parts.carry_on_resumed.Given as goal

-- the one that waited, of which nothing was left to do, was carried on, or all is still as it was; and the worker is idle still
abbrev pub invariant-loop-made : goal.invariant-loop-made
invariant-loop-made g l =
    ((o : OpId) → WaitsAtEnd g.F.Minifilter g.B.Base WORKER o l.fn.self
    → ((l._made ≡ 0) × (l.self ≡ l.fn.self)) ⊎ ((l.self.finished.items.items ≡ l.fn.self.finished.items.items ++ o ∷ [])
    × (l.self.work.resumed.items.items ≡ [])))
    × StaysOut WORKER l.fn.self.work.state l.self.work.state
    × CarriesOnMany g.F.Minifilter g.B.Base WORKER TURNS l._made l.fn.self l.self × (l.self.filters ≡ l.fn.self.filters) × StaysWaiting l.fn.self l.self
