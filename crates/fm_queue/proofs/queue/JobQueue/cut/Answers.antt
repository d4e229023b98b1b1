use Rattle.fm_queue.specs.Passes.{tally_of}
use Rattle.fm_queue.proofs.Rule.{cuts}
use Rattle.fm_queue.proofs.queue.JobQueue.cut.Goals as goal

pub another-requires-clause-rule : goal.another-requires-clause-rule
another-requires-clause-rule c = cuts c.args.pass.now.id (tally_of c.args.pass.now) c.requires.parts
