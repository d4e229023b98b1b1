use Rattle.std.proofs.Common.{◌≡◌}
use Rattle.fm_worker.proofs.worker.Worker.clean_up.Given as goal

abbrev pub invariant-contexts : goal.invariant-contexts
invariant-contexts g l = l.self.own.port.resumed ≡ l.fn.self.own.port.resumed
