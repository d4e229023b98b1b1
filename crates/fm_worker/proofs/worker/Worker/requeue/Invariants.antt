use Rattle.std.proofs.Common.{◌≡◌}
use Rattle.fm_queue.specs.Passes.{tally_of}
use Rattle.fm_worker.specs.Jobs.{HandsOn}
use Rattle.fm_worker.proofs.worker.Worker.requeue.Given as goal

abbrev pub invariant-jobs : goal.invariant-jobs
invariant-jobs g l = HandsOn (tally_of l.fn.self.own.pass).puts l.fn.self.own.waiting.aside
    (tally_of l.self.own.pass).puts l.self.own.waiting.aside × (l.self.own.port.resumed ≡ l.fn.self.own.port.resumed)
