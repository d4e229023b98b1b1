use Rattle.fm_rundown.specs.Seats.{IsSeatOf}
use Rattle.test_leaves.proofs.rundown_tests.other_line.Given as goal

abbrev pub invariant-lines : goal.invariant-lines
invariant-lines l = IsSeatOf l.gate l.seat
