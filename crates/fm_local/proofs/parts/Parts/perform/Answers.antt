use Rattle.fm_local.proofs.Words.{Err, Ok, inl, inr, WORKER}
use Rattle.fm_local.proofs.queues.Places.{begun_out}
use Rattle.fm_local.proofs.operations.Refusals.{not_begun, refuses_one}
use Rattle.fm_local.proofs.instances.NoneDue.{none_begun}
use Rattle.fm_local.proofs.operations.ManagerRequests.{performs_begun, performs_refused}
use Rattle.fm_local.proofs.queues.ManagerWaits.{begins_wait, begun_apart}
use Rattle.fm_local.proofs.parts.Parts.perform.Goals as goal

pub returns-in-Ok-clause-does : goal.returns-in-Ok-clause-does
returns-in-Ok-clause-does g c ready =
    performs_begun g.F.Minifilter g.B.Base WORKER c.args.request c.args.self.now ready c.begin.new.self
    c.in-Ok.operation c.run.result c.run.new.self c.laws.ensures c.in-Ok.ensures.event c.run.ensures.runs

pub returns-in-Err-clause-does : goal.returns-in-Err-clause-does
returns-in-Err-clause-does g c ready =
    let refused =
    performs_refused g.F.Minifilter g.B.Base WORKER c.args.request c.args.self.now ready c.begin.new.self
    c.in-Err.status c.in-Err.ensures.event in
    rw c.refusal.ensures refused

pub returns-in-Ok-clause-refused : goal.returns-in-Ok-clause-refused
returns-in-Ok-clause-refused g c why refused = absurd (not_begun c.args.self.now.work.state c.args.request c.in-Ok.operation
    c.begin.new.self c.in-Ok.ensures.event why refused)

pub returns-in-Err-clause-refused : goal.returns-in-Err-clause-refused
returns-in-Err-clause-refused g c = refuses_one c.args.self.now c.args.request c.in-Err.status c.begin.new.self c.in-Err.ensures.event
    c.refusal.result c.refusal.ensures

pub returns-in-Ok-clause-requests : goal.returns-in-Ok-clause-requests
returns-in-Ok-clause-requests g c = inr (c.in-Ok.operation, c.begin.new.self, c.in-Ok.ensures.event, c.run.ensures.goes)

pub returns-in-Err-clause-requests : goal.returns-in-Err-clause-requests
returns-in-Err-clause-requests g c = inl (c.in-Err.status, c.in-Err.ensures.event, c.refusal.ensures)

pub returns-in-Ok-clause-between : goal.returns-in-Ok-clause-between
returns-in-Ok-clause-between g c before =
    let event = c.in-Ok.ensures.event in
    let waits = begins_wait c.args.self.now.work.state c.args.request (Ok c.in-Ok.operation) c.begin.new.self
    c.args.self.now.work.resumed.items.items c.args.self.now.finished.items.items event before.waits in
    record {
      waits = c.run.ensures.waits waits (begun_apart c.args.self.now.work.state c.args.request c.in-Ok.operation c.begin.new.self
          c.args.self.now.work.resumed.items.items c.args.self.now.finished.items.items c.laws.ensures event before.waits);
      out = c.run.ensures.out (begun_out WORKER c.args.self.now.work.state c.args.request (Ok c.in-Ok.operation) c.begin.new.self event before.out);
      none_due = c.run.ensures.none_due;
    }

pub returns-in-Err-clause-between : goal.returns-in-Err-clause-between
returns-in-Err-clause-between g c before =
    let event = c.in-Err.ensures.event in
    record {
      waits = begins_wait c.args.self.now.work.state c.args.request (Err c.in-Err.status) c.begin.new.self
          c.args.self.now.work.resumed.items.items c.args.self.now.finished.items.items event before.waits;
      out = begun_out WORKER c.args.self.now.work.state c.args.request (Err c.in-Err.status) c.begin.new.self event before.out;
      none_due = none_begun WORKER c.args.self.now.work.state c.args.request c.in-Err.status c.begin.new.self event before.none_due;
    }
