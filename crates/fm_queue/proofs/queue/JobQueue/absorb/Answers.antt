use Rattle.fm_queue.specs.Passes.{tally_of}
use Rattle.fm_queue.proofs.Rule.{joins}
use Rattle.fm_queue.proofs.queue.JobQueue.absorb.Goals as goal

pub absorb-requires-clause-rule : goal.absorb-requires-clause-rule
absorb-requires-clause-rule c = joins c.args.pass.now.id (tally_of c.args.pass.now) c.args.other.id (tally_of c.args.other) c.requires.own.0.1
