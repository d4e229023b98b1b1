use Rattle.fm_local.proofs.Words.{Err, Ok, FileRequest, Request, WORKER, RESUMPTIONS, TURNS}
use Rattle.fm_local.proofs.queues.Places.{begun_out}
use Rattle.fm_local.proofs.instances.NoneDue.{none_begun}
use Rattle.fm_local.proofs.operations.Refusals.{not_begun, refuses_close}
use Rattle.fm_local.proofs.operations.ReadyAnswers.{answers_closed, answers_refused}
use Rattle.fm_local.proofs.queues.ManagerWaits.{begins_wait, begun_apart}
use Rattle.fm_local.proofs.parts.Parts.close.Goals as goal

pub returns-in-Ok-clause-fold : goal.returns-in-Ok-clause-fold
returns-in-Ok-clause-fold g c ready =
    answers_closed g.F.Minifilter g.B.Base WORKER c.args.self.now ready c.laws.ensures c.args.handle c.in-Ok.cleanup
    c.begin.new.self c.in-Ok.ensures.event c.close_after.result c.close_after.new.self c.close_after.ensures.does

pub returns-in-Err-clause-fold : goal.returns-in-Err-clause-fold
returns-in-Err-clause-fold g c ready =
    answers_refused g.F.Minifilter g.B.Base WORKER c.args.self.now ready c.laws.ensures c.args.handle c.in-Err.status
    c.begin.new.self c.in-Err.ensures.event c.close_where_cleaned.result c.close_where_cleaned.new.self c.close_where_cleaned.ensures.does
    TURNS RESUMPTIONS c.close_where_cleaned.ensures.closes

pub returns-in-Ok-clause-refused : goal.returns-in-Ok-clause-refused
returns-in-Ok-clause-refused g c why refused ends =
    absurd (not_begun c.args.self.now.work.state (Request.OnHandle c.args.handle FileRequest.Cleanup) c.in-Ok.cleanup c.begin.new.self
    c.in-Ok.ensures.event why refused)

pub returns-in-Err-clause-refused : goal.returns-in-Err-clause-refused
returns-in-Err-clause-refused g c =
    refuses_close g.F.Minifilter g.B.Base WORKER TURNS RESUMPTIONS c.args.self.now c.args.handle
    c.in-Err.status c.begin.new.self c.in-Err.ensures.event c.close_where_cleaned.result c.close_where_cleaned.new.self c.close_where_cleaned.ensures.closes

pub returns-in-Ok-clause-requests : goal.returns-in-Ok-clause-requests
returns-in-Ok-clause-requests g c = (Ok c.in-Ok.cleanup, c.begin.new.self, c.in-Ok.ensures.event, c.close_after.ensures.closes)

pub returns-in-Err-clause-requests : goal.returns-in-Err-clause-requests
returns-in-Err-clause-requests g c = (Err c.in-Err.status, c.begin.new.self, c.in-Err.ensures.event, c.close_where_cleaned.ensures.closes)

pub returns-in-Ok-clause-between : goal.returns-in-Ok-clause-between
returns-in-Ok-clause-between g c before =
    let event = c.in-Ok.ensures.event in
    let waits = begins_wait c.args.self.now.work.state (Request.OnHandle c.args.handle FileRequest.Cleanup)
    (Ok c.in-Ok.cleanup) c.begin.new.self c.args.self.now.work.resumed.items.items c.args.self.now.finished.items.items event
    before.waits in
    record {
      waits = c.close_after.ensures.waits waits (begun_apart c.args.self.now.work.state
          (Request.OnHandle c.args.handle FileRequest.Cleanup) c.in-Ok.cleanup c.begin.new.self
          c.args.self.now.work.resumed.items.items c.args.self.now.finished.items.items c.laws.ensures event before.waits);
      out = c.close_after.ensures.out (begun_out WORKER c.args.self.now.work.state (Request.OnHandle c.args.handle FileRequest.Cleanup)
          (Ok c.in-Ok.cleanup) c.begin.new.self event before.out);
      none_due = c.close_after.ensures.none_due;
    }

pub returns-in-Err-clause-between : goal.returns-in-Err-clause-between
returns-in-Err-clause-between g c before =
    let event = c.in-Err.ensures.event in
    let what = Request.OnHandle c.args.handle FileRequest.Cleanup in
    c.close_where_cleaned.ensures.between record {
      waits = begins_wait c.args.self.now.work.state what (Err c.in-Err.status) c.begin.new.self
          c.args.self.now.work.resumed.items.items c.args.self.now.finished.items.items event before.waits;
      out = begun_out WORKER c.args.self.now.work.state what (Err c.in-Err.status) c.begin.new.self event before.out;
      none_due = none_begun WORKER c.args.self.now.work.state what c.in-Err.status c.begin.new.self event before.none_due;
    }
