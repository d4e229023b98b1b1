use Rattle.fm_wire.proofs.OneFrame.{pieces}
use Rattle.fm_wire.proofs.laws.pieces.Goals as goal

pub returns : goal.returns
returns c = pieces
