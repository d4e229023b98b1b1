use Rattle.fm_local.proofs.Words.{BasesCarry}
use Rattle.fm_local.proofs.operations.RequestFold.{answered}
use Rattle.fm_local.proofs.laws.carried_is_fold.Goals as goal

pub returns : goal.returns
returns g c = answered g.F.Minifilter.pre_may g.F.Minifilter.post_may g.F.Minifilter.is_quiet (BasesCarry g.B.Base.folder g.B.Base.faults)
