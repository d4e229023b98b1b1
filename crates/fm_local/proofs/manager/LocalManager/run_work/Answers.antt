use Rattle.fm_local.proofs.Words.{sym}
use Rattle.fm_local.proofs.manager.LocalManager.run_work.Goals as goal

pub returns-clause-works : goal.returns-clause-works
returns-clause-works g c = rw (sym c.self.view_is) c.run_work.ensures.works

pub returns-clause-ready : goal.returns-clause-ready
returns-clause-ready g c = rw (sym c.self.view_is) c.run_work.ensures.ready
