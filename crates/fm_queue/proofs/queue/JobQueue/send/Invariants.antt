use Rattle.std.proofs.Common.{◌≡◌}
use Rattle.fm_queue.specs.Passes.{tally_of, IsPassOf}
use Rattle.fm_queue.proofs.queue.JobQueue.send.Given as goal

abbrev pub invariant-tries : goal.invariant-tries
invariant-tries g l = IsPassOf l.self l.pass × (tally_of l.pass ≡ tally_of l.fn.pass)
