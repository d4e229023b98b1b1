use Rattle.fm_local.proofs.queues.ManagerWaits.{taken_waits}
use Rattle.fm_local.proofs.parts.Parts.resumed.Goals as goal

pub returns-clause-between : goal.returns-clause-between
returns-clause-between g c before =
    let old = c.args.self.now in
    record {
      waits = taken_waits old.work.state.flow old.work.resumed.items.items c.take.new.self.items.items old.finished.items.items c.take.ensures.rest before.waits;
      out = before.out;
      none_due = before.none_due;
    }
