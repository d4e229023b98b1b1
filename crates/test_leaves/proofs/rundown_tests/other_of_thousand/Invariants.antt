use Rattle.fm_rundown.specs.Seats.{IsSeatOf}
use Rattle.test_leaves.proofs.rundown_tests.other_of_thousand.Given as goal

abbrev pub invariant-turns : goal.invariant-turns
invariant-turns l = IsSeatOf l.gate l.seat
