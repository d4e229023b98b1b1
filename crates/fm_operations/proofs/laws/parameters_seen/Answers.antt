use Rattle.fm_operations.proofs.Seeing.{seen}
use Rattle.fm_operations.proofs.laws.parameters_seen.Goals as goal

pub returns : goal.returns
returns c = seen
