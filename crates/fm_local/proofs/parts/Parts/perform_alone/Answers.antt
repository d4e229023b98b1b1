use Rattle.fm_local.proofs.Words.{Err, Ok, inl, inr, WORKER}
use Rattle.fm_local.proofs.queues.Places.{begun_out}
use Rattle.fm_local.proofs.operations.ManagerRequests.{performs_begun, performs_refused}
use Rattle.fm_local.proofs.queues.ManagerWaits.{begins_wait, begun_apart}
use Rattle.fm_local.proofs.parts.Parts.perform_alone.Goals as goal

pub returns-in-Ok-clause-does : goal.returns-in-Ok-clause-does
returns-in-Ok-clause-does g c ready =
    performs_begun g.F.Minifilter g.B.Base WORKER c.args.request c.args.self.now ready c.begin.new.self
    c.in-Ok.operation c.run_alone.result c.run_alone.new.self c.laws.ensures c.in-Ok.ensures.event c.run_alone.ensures.runs

pub returns-in-Err-clause-does : goal.returns-in-Err-clause-does
returns-in-Err-clause-does g c ready =
    rw c.refusal.ensures (performs_refused g.F.Minifilter g.B.Base WORKER c.args.request c.args.self.now ready
    c.begin.new.self c.in-Err.status c.in-Err.ensures.event)

pub returns-in-Ok-clause-out : goal.returns-in-Ok-clause-out
returns-in-Ok-clause-out g c out = c.run_alone.ensures.out
    (begun_out WORKER c.args.self.now.work.state c.args.request (Ok c.in-Ok.operation) c.begin.new.self c.in-Ok.ensures.event out)

pub returns-in-Err-clause-out : goal.returns-in-Err-clause-out
returns-in-Err-clause-out g c = begun_out WORKER c.args.self.now.work.state c.args.request (Err c.in-Err.status) c.begin.new.self c.in-Err.ensures.event

pub returns-in-Ok-clause-performs : goal.returns-in-Ok-clause-performs
returns-in-Ok-clause-performs g c = inr (c.in-Ok.operation, c.begin.new.self, c.in-Ok.ensures.event, c.run_alone.ensures.goes)

pub returns-in-Err-clause-performs : goal.returns-in-Err-clause-performs
returns-in-Err-clause-performs g c = inl (c.in-Err.status, c.in-Err.ensures.event, c.refusal.ensures)

pub returns-in-Ok-clause-waits : goal.returns-in-Ok-clause-waits
returns-in-Ok-clause-waits g c waits =
    (c.run_alone.ensures.waits (begins_wait c.args.self.now.work.state c.args.request (Ok c.in-Ok.operation) c.begin.new.self
    c.args.self.now.work.resumed.items.items c.args.self.now.finished.items.items c.in-Ok.ensures.event waits)
    (begun_apart c.args.self.now.work.state c.args.request c.in-Ok.operation c.begin.new.self
    c.args.self.now.work.resumed.items.items c.args.self.now.finished.items.items c.laws.ensures c.in-Ok.ensures.event waits)).0

pub returns-in-Err-clause-waits : goal.returns-in-Err-clause-waits
returns-in-Err-clause-waits g c waits =
    (begins_wait c.args.self.now.work.state c.args.request (Err c.in-Err.status) c.begin.new.self
    c.args.self.now.work.resumed.items.items c.args.self.now.finished.items.items c.in-Err.ensures.event waits)
