use Rattle.fm_local.proofs.Words.{ap, Parts, subst, sym, WORKER, Place}
use Rattle.fm_local.proofs.queues.Places.{in_still}
use Rattle.fm_local.proofs.queues.ManagerWaits.{pre_apart}
use Rattle.fm_local.specs.Waits.{IsApart}
use Rattle.fm_local.proofs.parts.Parts.pre.Goals as goal

pub returns-clause-makes : goal.returns-clause-makes
returns-clause-makes g c =
    let asked = c.goes_down-verdict in
    let same = ap (λ m. m.bases.all.items) c.end_pre.ensures.kept in (
      asked.result,
      asked.new.lent,
      c.end_pre.result,
      asked.ensures.said,
      record { received = asked.ensures.kept; laws = c.laws.ensures },
      (asked.new.work.state, asked.ensures.rest.far, c.end_pre.ensures.event),
      same,
    )

pub returns-clause-waits : goal.returns-clause-waits
returns-clause-waits g c there waits =
    let asked = c.goes_down-verdict in
    let work = asked.new.work in
    let ended = c.args.self.now.finished.items.items in
    let still = in_still WORKER (Place.Pre c.args.operation c.args.instance) c.args.self.now.work.state work.state asked.ensures.rest.far there in
    let waited = asked.ensures.rest.waits ended waits in
    let apart = pre_apart work.state WORKER c.args.operation c.args.instance work.resumed.items.items ended c.laws-2.ensures still waited in
    (c.end_pre.ensures.waits waited, subst (λ (m : Parts g.row.F.Denot g.row.B.Denot). IsApart c.args.operation m) (sym c.end_pre.ensures.kept) apart)
