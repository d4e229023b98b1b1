use Rattle.fm_local.proofs.Words.{Parts, subst, sym, WORKER, Place}
use Rattle.fm_local.proofs.queues.Places.{in_still}
use Rattle.fm_local.proofs.queues.ManagerWaits.{drain_apart}
use Rattle.fm_local.specs.Waits.{IsApart}
use Rattle.fm_local.proofs.parts.Parts.drain_next.Goals as goal

pub returns-clause-ends : goal.returns-clause-ends
returns-clause-ends g c = (c.drain.new.self.work.state, c.drain.ensures.far, c.end_post.ensures.event)

pub returns-clause-waits : goal.returns-clause-waits
returns-clause-waits g c there waits =
    let mid = c.drain.new.self in
    let still = in_still WORKER (Place.Drain c.args.operation c.args.instance) c.args.self.now.work.state mid.work.state c.drain.ensures.far there in
    let waited = c.drain.ensures.waits waits in
    let apart = drain_apart mid.work.state WORKER c.args.operation c.args.instance mid.work.resumed.items.items
    mid.finished.items.items c.laws.ensures still waited in
    (c.end_post.ensures.waits waited, subst (λ (m : Parts g.row.F.Denot g.row.B.Denot). IsApart c.args.operation m) (sym c.end_post.ensures.kept) (apart))
