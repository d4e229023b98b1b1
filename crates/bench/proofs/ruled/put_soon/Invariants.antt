use Rattle.fm_queue.specs.Passes.{IsPassOf}
use Rattle.bench.proofs.ruled.put_soon.Given as goal

abbrev pub invariant-loop : goal.invariant-loop
invariant-loop g l = IsPassOf l.queue l.pass
