use Rattle.fm_worker.specs.Jobs.{LeavesNone}
use Rattle.fm_worker.proofs.worker.Worker.stop_all.Given as goal

abbrev pub invariant-instances : goal.invariant-instances
invariant-instances g l = LeavesNone l.fn.self.own.port.resumed l.self.own.port.resumed
