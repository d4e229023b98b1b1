use Rattle.fm_queue.specs.Passes.{tally_of}
use Rattle.fm_queue.proofs.Rule.{takes, learns}
use Rattle.fm_queue.proofs.queue.JobQueue.try_take.Goals as goal

pub try_recv_as-requires-clause-rule : goal.try_recv_as-requires-clause-rule
try_recv_as-requires-clause-rule g c =
    let pass = c.args.pass.now in
    (takes pass.id (tally_of pass) c.requires.own.1, learns pass.id (tally_of pass))
