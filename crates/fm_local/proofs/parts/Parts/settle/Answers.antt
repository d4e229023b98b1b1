use Rattle.fm_local.proofs.Words.{WORKER}
use Rattle.fm_local.proofs.queues.Places.{still_out}
use Rattle.fm_local.proofs.parts.Parts.settle.Goals as goal

pub returns-clause-out : goal.returns-clause-out
returns-clause-out g c out =
    still_out WORKER c.carry_on_resumed.new.self.work.state c.clean_up.new.self.work.state c.clean_up.ensures.tidies.workers
    (c.carry_on_resumed.ensures.out out)

pub returns-clause-all : goal.returns-clause-all
returns-clause-all g c = (c.carry_on_resumed.new.self, c.carry_on_resumed.ensures.all, c.clean_up.ensures.cleans, c.clean_up.ensures.kept)

pub returns-clause-waits : goal.returns-clause-waits
returns-clause-waits g c waits =
    c.clean_up.ensures.waits (c.carry_on_resumed.ensures.waits waits)
