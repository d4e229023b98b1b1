use Rattle.fm_world.proofs.Lasting.{contexts_last}
use Rattle.fm_world.proofs.laws.contexts_last.Goals as goal

pub returns : goal.returns
returns c = contexts_last
