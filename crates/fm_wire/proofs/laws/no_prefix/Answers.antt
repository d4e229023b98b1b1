use Rattle.fm_wire.proofs.OneFrame.{no_prefix}
use Rattle.fm_wire.proofs.laws.no_prefix.Goals as goal

pub returns : goal.returns
returns c = no_prefix
