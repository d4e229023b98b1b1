use Rattle.fm_queue.specs.Passes.{tally_of, capacity_of}
use Rattle.fm_queue.proofs.Rule.{puts, learns}
use Rattle.fm_queue.proofs.queue.JobQueue.send.Goals as goal

pub try_send_as-requires-clause-rule : goal.try_send_as-requires-clause-rule
try_send_as-requires-clause-rule g c =
    let pass = c.tries.pass in
    (puts (capacity_of c.args.self.now) pass.id (tally_of pass) c.args.job c.tries.invariant.0.1, learns pass.id (tally_of pass))
