use Rattle.fm_local.proofs.queues.ManagerWaits.{put_waits}
use Rattle.fm_local.proofs.parts.Parts.carry_on.Goals as goal

pub returns-in-Done-clause-waits : goal.returns-in-Done-clause-waits
returns-in-Done-clause-waits g c waits apart =
    let carried = c.carry.new.self in
    let far = c.carry.ensures.waits waits apart in
    put_waits carried.work.state.flow c.args.operation carried.work.resumed.items.items carried.finished.items.items
    c.put.new.self.items.items c.put.ensures.any (c.carry.ensures.ended c.in-Done.is) far.1 far.0
