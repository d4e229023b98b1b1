use Rattle.fm_wire.proofs.OneFrame.{one_reading}
use Rattle.fm_wire.proofs.laws.one_reading.Goals as goal

pub returns : goal.returns
returns c = one_reading
