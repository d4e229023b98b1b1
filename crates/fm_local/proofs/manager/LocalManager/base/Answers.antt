use Rattle.fm_local.proofs.Words.{refl, sym}
use Rattle.fm_local.proofs.manager.LocalManager.base.Goals as goal

pub returns : goal.returns
returns g c = rw (sym c.self.view_is) (refl, c.base.ensures)
