use Rattle.fm_local.proofs.Words.{inr, AgreesAt, WORKER, Err, Ok}
use Rattle.fm_local.proofs.operations.AnyTurns.{calls_untraced}
use Rattle.fm_local.proofs.instances.Rest.{ask_refused}
use Rattle.fm_local.proofs.queues.Places.{asked_in, query_out, same_out}
use Rattle.fm_local.proofs.instances.NoneDue.{none_asked}
use Rattle.fm_local.proofs.instances.Ready.{asks_by}
use Rattle.fm_local.proofs.queues.SameOperations as unmoved
use Rattle.fm_local.proofs.queues.ManagerWaits.{same_flow}
use Rattle.fm_local.proofs.parts.Parts.ask.Goals as goal

pub returns-clause-asks : goal.returns-clause-asks
returns-clause-asks g c =
    let old = c.args.self.now in
    asks_by (AgreesAt g.F.Minifilter.query_may old.filters) old.work.state WORKER c.args.instance c.query-allowed.result
    c.ask_detach.new.self c.in_ok-ask_detach.ensures.event (c.query-allowed.new.self.work.state, c.query-allowed.ensures.ends)

pub returns-clause-settles : goal.returns-clause-settles
returns-clause-settles g c = inr (
  c.ask_detach.new.self,
  c.query-allowed.new.self,
  c.in_ok-ask_detach.ensures.event,
  c.query-allowed.ensures.ends,
  calls_untraced c.args.self.now c.query-allowed.new.self c.query-allowed.ensures.kept,
  c.settle.ensures.all,
)

pub returns-in_err-ask_detach-clause-between : goal.returns-in_err-ask_detach-clause-between
returns-in_err-ask_detach-clause-between g c before =
    let event = c.in_err-ask_detach.ensures.event in
    let refused = c.ask_detach.new.self in
    let why = c.in_err-ask_detach.field-0.0 in
    record {
      waits = same_flow _ _ _ _ (unmoved.asked c.args.self.now.work.state refused WORKER c.args.instance (Err why) event) before.waits;
      out = same_out WORKER c.args.self.now.work.state refused (ask_refused c.args.self.now.work.state WORKER c.args.instance why refused event) before.out;
      none_due = none_asked WORKER c.args.self.now.work.state c.args.instance why refused event before.none_due;
    }

pub returns-clause-between : goal.returns-clause-between
returns-clause-between g c before =
    let old = c.args.self.now.work.state in
    let asked = c.ask_detach.new.self in
    let event = c.in_ok-ask_detach.ensures.event in
    let may = AgreesAt g.F.Minifilter.query_may c.args.self.now.filters asked c.args.instance in
    let there = asked_in WORKER old c.args.instance asked event in
    record {
      waits = c.settle.ensures.waits (c.query-allowed.ensures.waits
          (same_flow _ _ _ _ (unmoved.asked old asked WORKER c.args.instance (Ok tt) event) before.waits));
      out = c.settle.ensures.out (query_out WORKER asked c.query-allowed.new.self.work.state c.query-allowed.result may c.args.instance
          there c.query-allowed.ensures.ends);
      none_due = c.settle.ensures.none_due;
    }
