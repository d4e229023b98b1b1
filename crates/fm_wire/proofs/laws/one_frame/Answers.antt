use Rattle.fm_wire.proofs.OneFrame.{one_frame}
use Rattle.fm_wire.proofs.laws.one_frame.Goals as goal

pub returns : goal.returns
returns c = one_frame
