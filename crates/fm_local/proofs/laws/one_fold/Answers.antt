use Rattle.fm_local.proofs.operations.OneFold.{one_fold}
use Rattle.fm_local.proofs.laws.one_fold.Goals as goal

pub returns : goal.returns
returns g c = one_fold g.F.Minifilter.pre_may g.F.Minifilter.post_may g.D.Device.carries
