use Rattle.std.proofs.Common.{◌≡◌}
use Rattle.fm_worker.proofs.worker.Worker.drain_all.Given as goal

abbrev pub invariant-drains : goal.invariant-drains
invariant-drains g l = l.self.own.pass ≡ l.fn.self.own.pass
