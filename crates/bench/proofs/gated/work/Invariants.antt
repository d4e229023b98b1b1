use Rattle.fm_rundown.specs.Seats.{IsSeatOf}
use Rattle.bench.proofs.gated.work.Given as goal

abbrev pub invariant-loop : goal.invariant-loop
invariant-loop l = IsSeatOf l.gate l.seat
