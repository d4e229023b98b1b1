use Rattle.fm_operations.proofs.Counting.{flight_few}
use Rattle.fm_operations.proofs.laws.in_flight_once.Goals as goal

pub returns : goal.returns
returns c = λ r sound i. flight_few r.stage r.entries i sound.course
