use Rattle.fm_wire.proofs.Spellings.{only_spelled}
use Rattle.fm_wire.proofs.laws.only_spelled.Goals as goal

pub returns : goal.returns
returns c = only_spelled
