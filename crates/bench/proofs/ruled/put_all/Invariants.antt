use Rattle.fm_queue.specs.Passes.{IsPassOf}
use Rattle.bench.proofs.ruled.put_all.Given as goal

abbrev pub invariant-loop-number : goal.invariant-loop-number
invariant-loop-number g l = IsPassOf l.queue l.pass
