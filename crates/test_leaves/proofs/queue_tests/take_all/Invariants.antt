use Rattle.std.proofs.Common.{◌≡◌}
use Rattle.fm_queue.specs.Passes.{parts_of, IsPassOf}
use Rattle.test_leaves.proofs.queue_tests.take_all.Given as goal

abbrev pub invariant-loop : goal.invariant-loop
invariant-loop g l = IsPassOf l.queue l.pass × (parts_of l.pass ≡ parts_of l.fn.pass)
