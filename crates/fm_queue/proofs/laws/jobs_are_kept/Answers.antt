use Rattle.fm_queue.specs.Passes.{tally_of}
use Rattle.fm_queue.proofs.Jobs.{nothing_left}
use Rattle.fm_queue.proofs.laws.jobs_are_kept.Goals as goal

pub returns-clause-all_taken : goal.returns-clause-all_taken
returns-clause-all_taken c as_many =
    let before = tally_of c.args.pass.now in
    let kept = c.learn.ensures.kept in
    nothing_left before.puts before.takes kept.0 kept.1 as_many
