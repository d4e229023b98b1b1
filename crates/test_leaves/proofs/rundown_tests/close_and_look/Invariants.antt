use Rattle.fm_rundown.specs.Seats.{IsSeatOf}
use Rattle.test_leaves.proofs.rundown_tests.close_and_look.Given as goal

abbrev pub invariant-looks : goal.invariant-looks
invariant-looks g l = IsSeatOf l.gate l.seat
