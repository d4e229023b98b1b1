use Rattle.fm_local.proofs.Words.{WORKER}
use Rattle.fm_local.proofs.queues.Places.{begun_out}
use Rattle.fm_local.proofs.queues.ManagerWaits.{begins_wait}
use Rattle.fm_local.proofs.instances.NoneDue.{none_begins}
use Rattle.fm_local.proofs.parts.Parts.begin.Goals as goal

pub returns-clause-between : goal.returns-clause-between
returns-clause-between g c before =
    let old = c.args.self.now in
    let event = c.begin.ensures.event in
    record {
      waits = begins_wait old.work.state c.args.request c.begin.result c.begin.new.self old.work.resumed.items.items old.finished.items.items event before.waits;
      out = begun_out WORKER old.work.state c.args.request c.begin.result c.begin.new.self event before.out;
      none_due = none_begins WORKER old.work.state c.args.request c.begin.result c.begin.new.self event before.none_due;
    }
