use Rattle.fm_local.proofs.Words.{Err, Ok, inl, inr, refl, err_from_is_err_and, AgreesAt, WORKER}
use Rattle.fm_local.proofs.queues.Places.{attached_in, same_out}
use Rattle.fm_local.proofs.instances.NoneDue.{none_attached}
use Rattle.fm_local.proofs.instances.Ready.{attach_leaves, attach_leaves_none}
use Rattle.fm_local.proofs.instances.Rest.{attach_refused}
use Rattle.fm_local.proofs.queues.SameOperations as unmoved
use Rattle.fm_local.proofs.queues.ManagerWaits.{same_flow}
use Rattle.fm_local.proofs.parts.Parts.attach.Goals as goal

pub returns-in_err-instance-clause-ready : goal.returns-in_err-instance-clause-ready
returns-in_err-instance-clause-ready g c ready =
    attach_leaves_none c.args.self.now ready c.args.filter c.args.volume
    c.args.name c.args.altitude c.in_err-instance.field-0.0 c.attach.new.self c.in_err-instance.ensures.event

pub returns-in-Ok-clause-ready : goal.returns-in-Ok-clause-ready
returns-in-Ok-clause-ready g c ready =
    let i = c.in_ok-instance.instance in
    let born = c.attach.new.self in
    attach_leaves c.args.self.now ready c.args.filter c.args.volume
    c.args.name c.args.altitude i born (AgreesAt g.F.Minifilter.setup_may c.args.self.now.filters born i)
    (Ok tt) c.set_up.new.self c.in_ok-instance.ensures.event
    (c.in-Ok.ensures.quiet ready.plain ready.settled)

pub returns-in-Err-clause-ready : goal.returns-in-Err-clause-ready
returns-in-Err-clause-ready g c ready =
    let i = c.in_ok-instance.instance in
    let born = c.attach.new.self in
    attach_leaves c.args.self.now ready c.args.filter c.args.volume
    c.args.name c.args.altitude i born (AgreesAt g.F.Minifilter.setup_may c.args.self.now.filters born i)
    (Err c.in-Err.status) c.set_up.new.self c.in_ok-instance.ensures.event
    (c.in-Err.ensures.quiet ready.plain ready.settled)

pub returns-in_err-instance-clause-settles : goal.returns-in_err-instance-clause-settles
returns-in_err-instance-clause-settles g c =
    let exit = err_from_is_err_and c.from_residual.result c.from_residual.ensures.1 in
    rw (exit.1, exit.2) (inl (c.in_err-instance.ensures.event, refl))

pub returns-in-Ok-clause-settles : goal.returns-in-Ok-clause-settles
returns-in-Ok-clause-settles g c = (c.attach.new.self, c.in_ok-instance.ensures.event, c.in-Ok.ensures.settles)

pub returns-in-Err-clause-settles : goal.returns-in-Err-clause-settles
returns-in-Err-clause-settles g c = inr (c.in_ok-instance.instance, c.attach.new.self, c.in_ok-instance.ensures.event, c.in-Err.ensures.settles)

pub returns-in_err-instance-clause-between : goal.returns-in_err-instance-clause-between
returns-in_err-instance-clause-between g c before =
    let event = c.in_err-instance.ensures.event in
    let refused = c.attach.new.self in
    record {
      waits = same_flow _ _ _ _ (unmoved.attached c.args.self.now.work.state refused WORKER c.args.filter c.args.volume c.args.name
          c.args.altitude (Err c.in_err-instance.field-0.0) event) before.waits;
      out = same_out WORKER c.args.self.now.work.state refused
          (attach_refused c.args.self.now.work.state WORKER c.args.filter c.args.volume c.args.name c.args.altitude
          c.in_err-instance.field-0.0 refused event) before.out;
      none_due = none_attached WORKER c.args.self.now.work.state c.args.filter c.args.volume c.args.name c.args.altitude
          c.in_err-instance.field-0.0 refused event before.none_due;
    }

pub returns-in-Ok-clause-between : goal.returns-in-Ok-clause-between
returns-in-Ok-clause-between g c before =
    let event = c.in_ok-instance.ensures.event in
    let born = c.attach.new.self in
    record {
      waits = c.set_up.ensures.waits (same_flow _ _ _ _ (unmoved.attached c.args.self.now.work.state born WORKER c.args.filter
          c.args.volume c.args.name c.args.altitude (Ok c.in_ok-instance.instance) event) before.waits);
      out = c.set_up.ensures.out (attached_in WORKER c.args.self.now.work.state c.args.filter c.args.volume c.args.name c.args.altitude
          c.in_ok-instance.instance born event);
      none_due = c.set_up.ensures.none_due;
    }

pub returns-in-Err-clause-between : goal.returns-in-Err-clause-between
returns-in-Err-clause-between g c before =
    let event = c.in_ok-instance.ensures.event in
    let born = c.attach.new.self in
    record {
      waits = c.set_up.ensures.waits (same_flow _ _ _ _ (unmoved.attached c.args.self.now.work.state born WORKER c.args.filter
          c.args.volume c.args.name c.args.altitude (Ok c.in_ok-instance.instance) event) before.waits);
      out = c.set_up.ensures.out (attached_in WORKER c.args.self.now.work.state c.args.filter c.args.volume c.args.name c.args.altitude
          c.in_ok-instance.instance born event);
      none_due = c.set_up.ensures.none_due;
    }
