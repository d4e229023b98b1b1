use Rattle.fm_local.proofs.Words.{WORKER}
use Rattle.fm_local.proofs.queues.ManagerWaits.{leaves_standing, waits_still}
use Rattle.fm_local.proofs.routines.do_work.Goals as goal

pub returns-clause-far : goal.returns-clause-far
returns-clause-far g c = leaves_standing c.args.work.now c.run.new.port WORKER c.run.ensures.far

pub returns-clause-waits : goal.returns-clause-waits
returns-clause-waits g c = waits_still c.args.work.now c.run.new.port WORKER c.run.ensures.far
