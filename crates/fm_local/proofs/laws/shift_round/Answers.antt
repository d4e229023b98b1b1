use Rattle.fm_local.proofs.samples.RoundTrip.{round}
use Rattle.fm_local.proofs.laws.shift_round.Goals as goal

pub returns : goal.returns
returns g c = round g.B.Base.folder g.B.Base.faults
