use Rattle.fm_local.proofs.Words.{sym}
use Rattle.fm_local.proofs.manager.LocalManager.load.Goals as goal

pub returns-clause-ready : goal.returns-clause-ready
returns-clause-ready g c = rw (sym c.self.view_is) c.load.ensures.ready
