use Rattle.fm_local.proofs.Words.{WORKER}
use Rattle.fm_local.proofs.operations.ManagerRequests.{runs_settled}
use Rattle.fm_local.proofs.parts.Parts.run.Goals as goal

pub returns-clause-runs : goal.returns-clause-runs
returns-clause-runs g c plain began settled =
    runs_settled g.F.Minifilter g.B.Base WORKER c.args.self.now c.run_alone-reply.new.self c.settle.new.self c.run_alone-reply.result
    c.settle.ensures.tidies c.settle.ensures.kept c.args.operation (c.run_alone-reply.ensures.runs plain began settled)

pub returns-clause-out : goal.returns-clause-out
returns-clause-out g c out = c.settle.ensures.out (c.run_alone-reply.ensures.out out)

pub returns-clause-goes : goal.returns-clause-goes
returns-clause-goes g c = (c.run_alone-reply.new.self, c.run_alone-reply.ensures.goes, c.settle.ensures.all)

pub returns-clause-waits : goal.returns-clause-waits
returns-clause-waits g c waits apart =
    c.settle.ensures.waits (c.run_alone-reply.ensures.waits waits apart).0
