use Rattle.fm_core.proofs.Words.{Headline, RunThrough, empty_world}
use Rattle.fm_core.proofs.runs.run.Given as goal

abbrev pub invariant-loop-step : goal.invariant-loop-step
invariant-loop-step l = RunThrough Headline empty_world l.yielded l.replies.items l.state
