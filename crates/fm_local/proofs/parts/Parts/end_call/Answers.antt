use Rattle.fm_local.proofs.Words.{WORKER}
use Rattle.fm_local.proofs.queues.LooseOperations.{base_ends}
use Rattle.fm_local.proofs.queues.Waits.{waits_on}
use Rattle.fm_local.proofs.parts.Parts.end_call.Goals as goal

pub returns-in-Ok-clause-waits : goal.returns-in-Ok-clause-waits
returns-in-Ok-clause-waits g c waits =
    waits_on _ _ _ _ (λ p. base_ends p c.args.self.now.work.state WORKER c.laws.ensures _ c.base_returned.new.self c.args.call
    c.args.answer c.base_returned.ensures.event) waits

pub returns-in-Err-clause-waits : goal.returns-in-Err-clause-waits
returns-in-Err-clause-waits g c waits =
    waits_on _ _ _ _ (λ p. base_ends p c.args.self.now.work.state WORKER c.laws.ensures _ c.base_returned.new.self c.args.call
    c.args.answer c.base_returned.ensures.event) waits
