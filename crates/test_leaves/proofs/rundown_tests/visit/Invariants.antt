use Rattle.fm_rundown.specs.Seats.{IsSeatOf}
use Rattle.test_leaves.proofs.rundown_tests.visit.Given as goal

abbrev pub invariant-loop : goal.invariant-loop
invariant-loop g l = IsSeatOf l.gate l.seat
