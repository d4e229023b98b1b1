use Rattle.fm_local.proofs.Words.{[], ◌∙◌, ap, inr, refl, subst, sym, Err, Ok, WORKER}
use Rattle.fm_local.specs.Waits.{Wait}
use Rattle.fm_world.specs.Routines.{file_by}
use Rattle.fm_local.proofs.operations.AnyTurns.{calls_untraced}
use Rattle.fm_local.proofs.instances.Rest.{work_refused}
use Rattle.fm_local.proofs.instances.Worked.{once_ends, refused_ready, resumed_none, waits_at_rest, worked, worked_ready}
use Rattle.fm_local.proofs.queues.Places.{routine_out, same_out, working_in}
use Rattle.fm_local.proofs.instances.NoneDue.{none_worked}
use Rattle.fm_local.proofs.queues.SameOperations as unmoved
use Rattle.fm_local.proofs.queues.ManagerWaits.{same_flow}
use Rattle.fm_local.proofs.parts.Parts.run_work.Goals as goal

pub returns-clause-works : goal.returns-clause-works
returns-clause-works g c =
    let old = c.args.self.now.work.state in
    let event = c.in_ok-enter_routine.ensures.event in
    let there = working_in WORKER old c.args.instance c.args.handle c.enter_routine.new.self event in
    inr (
      c.enter_routine.new.self,
      c.run_item.new.self,
      event,
      c.run_item.ensures.ends c.args.instance (file_by old.files c.args.handle) there,
      calls_untraced c.args.self.now c.run_item.new.self c.run_item.ensures.kept,
      c.settle.ensures.all,
      refl,
    )

pub returns-in_err-enter_routine-clause-between : goal.returns-in_err-enter_routine-clause-between
returns-in_err-enter_routine-clause-between g c before =
    let event = c.in_err-enter_routine.ensures.event in
    let old = c.args.self.now.work.state in
    let refused = c.enter_routine.new.self in
    let why = c.in_err-enter_routine.field-0.0 in
    record {
      waits = same_flow _ _ _ _ (unmoved.entered_routine old refused WORKER c.args.instance c.args.handle (Err why) event) before.waits;
      out = same_out WORKER old refused (work_refused old WORKER c.args.instance c.args.handle why refused event) before.out;
      none_due = none_worked WORKER old c.args.instance c.args.handle why refused event before.none_due;
    }

pub returns-clause-between : goal.returns-clause-between
returns-clause-between g c before =
    let old = c.args.self.now.work.state in
    let entered = c.enter_routine.new.self in
    let event = c.in_ok-enter_routine.ensures.event in
    let file = file_by old.files c.args.handle in
    let there = working_in WORKER old c.args.instance c.args.handle entered event in
    record {
      waits = c.settle.ensures.waits (subst (λ ended. Wait c.run_item.new.self.work.state.flow c.run_item.new.self.work.resumed.items.items ended)
          (sym (ap (λ m. m.finished.items.items) c.run_item.ensures.kept))
          (c.run_item.ensures.waits c.args.self.now.finished.items.items
          (same_flow _ _ _ _ (unmoved.entered_routine old entered WORKER c.args.instance c.args.handle (Ok tt) event) before.waits)));
      out = c.settle.ensures.out (routine_out WORKER entered c.run_item.new.self.work.state (Ok tt) c.args.instance file there
          (once_ends WORKER (λ before after. g.W.WorkItem.works c.args.item.now before after) (record c.args.self.now.work { state = entered }) c.run_item.new.self.work
          (c.run_item.ensures.ends c.args.instance file there)));
      none_due = c.settle.ensures.none_due;
    }

pub returns-in_err-enter_routine-clause-ready : goal.returns-in_err-enter_routine-clause-ready
returns-in_err-enter_routine-clause-ready g c ready =
    refused_ready c.args.self.now ready c.args.instance c.args.handle c.in_err-enter_routine.field-0.0 c.enter_routine.new.self
    c.in_err-enter_routine.ensures.event

pub returns-clause-ready : goal.returns-clause-ready
returns-clause-ready g c ready =
    let old = c.args.self.now.work.state in
    let entered = c.enter_routine.new.self in
    let event = c.in_ok-enter_routine.ensures.event in
    let there = working_in WORKER old c.args.instance c.args.handle entered event in
    let back = c.run_item.new.self in
    let is = worked WORKER old ready.rests c.args.instance c.args.handle entered back.work.state event
    (once_ends WORKER (λ before after. g.W.WorkItem.works c.args.item.now before after) (record c.args.self.now.work { state = entered }) c.run_item.new.self.work
    (c.run_item.ensures.ends c.args.instance (file_by old.files c.args.handle) there)) in
    let none = resumed_none back.work.state.flow back.work.resumed.items.items is.operations (c.run_item.ensures.waits [] (waits_at_rest entered.flow c.args.self.now.work.resumed.items.items ready.settled)) in
    let settled = c.settle.ensures.kept none in
    worked_ready c.args.self.now ready c.args.instance c.args.handle back c.settle.new.self is (c.settle.ensures.tidies none)
    (settled.0 ∙ ap (λ m. m.bases) c.run_item.ensures.kept) (settled.1 ∙ ap (λ m. m.filters) c.run_item.ensures.kept) settled.2
