use Rattle.fm_operations.proofs.Turns.{turn_of}
use Rattle.fm_operations.proofs.laws.synchronized_turn.Goals as goal

pub returns : goal.returns
returns c = turn_of
