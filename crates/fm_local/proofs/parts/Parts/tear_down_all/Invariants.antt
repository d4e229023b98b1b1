use Rattle.fm_local.proofs.Words.{[], ◌≡◌, ArePlainFilters, numbered, TearsDownFirst, IsAtRest, WORKER, RESUMPTIONS, TURNS}
use Rattle.fm_local.specs.Quietly.{IsSettled}
use Rattle.fm_local.specs.Actions.{TearsDownEach}
use Rattle.fm_local.specs.Between.{StaysBetween}
use Rattle.fm_local.proofs.parts.Parts.tear_down_all.Given as goal

-- the filter's instances so far are torn down, where nothing was under way; the worker is idle still, and nothing is due
abbrev pub invariant-loop-at : goal.invariant-loop-at
invariant-loop-at g l =
    (ArePlainFilters g.F.Minifilter.pre_may g.F.Minifilter.post_may g.F.Minifilter.is_quiet (numbered l.fn.self.filters) → IsAtRest WORKER l.fn.self.work.state
    → l.fn.self.work.resumed.items.items ≡ [] → TearsDownFirst WORKER l.filter l.at l.fn.self.work.state l.self.work.state × IsSettled l.fn.self l.self)
    × TearsDownEach g.F.Minifilter g.B.Base WORKER TURNS RESUMPTIONS l.filter l.at l.fn.self l.self
    × StaysBetween l.fn.self l.self
