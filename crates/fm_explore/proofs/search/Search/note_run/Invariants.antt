use Rattle.std.proofs.Common.{◌≡◌}
use Rattle.fm_explore.proofs.search.Search.note_run.Given as goal

abbrev pub invariant-loop-finding : goal.invariant-loop-finding
invariant-loop-finding l = l.self.stopped ≡ l.initial.self.stopped
