use Rattle.fm_local.proofs.Words.{numbered, WORKER}
use Rattle.fm_local.proofs.instances.Cleanups.{cleans_nothing, cleans_refused}
use Rattle.fm_local.proofs.cleanups.clean_next.Goals as goal

pub returns-in-Ok-None-clause-cleans : goal.returns-in-Ok-None-clause-cleans
returns-in-Ok-None-clause-cleans g c =
    cleans_nothing g.F.Minifilter.cleanup_may (numbered c.args.filters.now) WORKER c.args.state.now c.take_due.new.self c.laws.ensures
    (rw c.in-Ok-None.field-0-is at c.in-Ok-None.ensures.event)

pub returns-in-Err-clause-cleans : goal.returns-in-Err-clause-cleans
returns-in-Err-clause-cleans g c =
    cleans_refused g.F.Minifilter.cleanup_may (numbered c.args.filters.now) WORKER c.args.state.now c.take_due.new.self
    c.in-Err.field-0 c.laws.ensures c.in-Err.ensures.event
