use Rattle.fm_local.proofs.Words.{WORKER}
use Rattle.fm_local.proofs.operations.ReadyAnswers.{closes_in}
use Rattle.fm_local.proofs.parts.Parts.close_after.Goals as goal

pub returns-clause-does : goal.returns-clause-does
returns-clause-does g c plain began settled =
    closes_in g.F.Minifilter g.B.Base WORKER c.args.cleanup c.args.handle c.args.self.now c.run_alone-cleaned.new.self
    c.then_close-reply.new.self c.settle.new.self
    c.run_alone-cleaned.result c.then_close-reply.result (c.run_alone-cleaned.ensures.runs plain began settled)
    c.then_close-reply.ensures.stops c.then_close-reply.ensures.does
    c.settle.ensures.tidies c.settle.ensures.kept

pub returns-clause-out : goal.returns-clause-out
returns-clause-out g c out = c.settle.ensures.out (c.then_close-reply.ensures.out (c.run_alone-cleaned.ensures.out out))

pub returns-clause-closes : goal.returns-clause-closes
returns-clause-closes g c = (
  c.run_alone-cleaned.result,
  c.run_alone-cleaned.new.self,
  c.then_close-reply.new.self,
  c.run_alone-cleaned.ensures.goes,
  c.then_close-reply.ensures.closes,
  c.settle.ensures.all,
)

pub returns-clause-waits : goal.returns-clause-waits
returns-clause-waits g c waits apart =
    c.settle.ensures.waits (c.then_close-reply.ensures.waits (c.run_alone-cleaned.ensures.waits waits apart).0)
