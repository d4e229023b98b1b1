use Rattle.fm_queue.specs.Passes.{tally_of}
use Rattle.fm_queue.proofs.Rule.{learns}
use Rattle.fm_queue.proofs.queue.JobQueue.learn.Goals as goal

pub learn_as-requires-clause-rule : goal.learn_as-requires-clause-rule
learn_as-requires-clause-rule c = learns c.args.pass.now.id (tally_of c.args.pass.now)
