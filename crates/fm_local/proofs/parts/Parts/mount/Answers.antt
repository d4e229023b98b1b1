use Rattle.fm_local.proofs.Words.{Err, Ok, refl, WORKER}
use Rattle.fm_local.proofs.queues.Places.{mounted_out}
use Rattle.fm_local.proofs.instances.NoneDue.{none_mounted}
use Rattle.fm_local.proofs.instances.Ready.{mounted_ready}
use Rattle.fm_local.proofs.instances.Rest.{mounted_calm}
use Rattle.fm_local.proofs.queues.SameOperations as unmoved
use Rattle.fm_local.proofs.queues.ManagerWaits.{same_flow}
use Rattle.fm_local.proofs.parts.Parts.mount.Goals as goal

pub returns-in_err-volume-clause-ready : goal.returns-in_err-volume-clause-ready
returns-in_err-volume-clause-ready g c ready =
    let old = c.args.self.now in
    let state = c.mount.new.self in
    mounted_ready old
    (record old { work = record old.work { state = state } }) ready refl refl
    (mounted_calm old.work.state c.args.name (Err c.in_err-volume.field-0.0) state c.in_err-volume.ensures.event)

pub returns-clause-ready : goal.returns-clause-ready
returns-clause-ready g c ready =
    let old = c.args.self.now in
    let state = c.mount.new.self in
    mounted_ready old
    (record old { bases = c.place.new.self; work = record old.work { state = state } }) ready refl refl
    (mounted_calm old.work.state c.args.name (Ok c.in_ok-volume.volume) state c.in_ok-volume.ensures.event)

pub returns-in_err-volume-clause-between : goal.returns-in_err-volume-clause-between
returns-in_err-volume-clause-between g c before =
    let event = c.in_err-volume.ensures.event in
    record {
      waits = same_flow _ _ _ _ (unmoved.mounted c.args.self.now.work.state _ c.args.name _ event) before.waits;
      out = mounted_out WORKER c.args.self.now.work.state c.args.name _ _ event before.out;
      none_due = none_mounted WORKER c.args.self.now.work.state c.args.name _ _ event before.none_due;
    }

pub returns-clause-between : goal.returns-clause-between
returns-clause-between g c before =
    let event = c.in_ok-volume.ensures.event in
    record {
      waits = same_flow _ _ _ _ (unmoved.mounted c.args.self.now.work.state _ c.args.name _ event) before.waits;
      out = mounted_out WORKER c.args.self.now.work.state c.args.name _ _ event before.out;
      none_due = none_mounted WORKER c.args.self.now.work.state c.args.name _ _ event before.none_due;
    }
