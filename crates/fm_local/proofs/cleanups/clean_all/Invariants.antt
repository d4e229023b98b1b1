use Rattle.fm_local.proofs.Words.{length, numbered, Tidies, WORKER}
use Rattle.fm_local.specs.Cleanups.{CleansAll}
use Rattle.fm_local.proofs.cleanups.clean_all.Given as goal

-- so many contexts were cleaned up
abbrev pub invariant-loop : goal.invariant-loop
invariant-loop g l =
    CleansAll g.F.Minifilter.cleanup_may (numbered l.filters) WORKER l.initial.state l.state × Tidies l.initial.state l.state

-- each time one less is due
abbrev pub decreases-loop : goal.decreases-loop
decreases-loop g l = length l.state.contexts.due
