use Rattle.fm_local.proofs.operations.Visits.{one_way}
use Rattle.fm_local.proofs.laws.one_way.Goals as goal

pub returns : goal.returns
returns c = one_way
