use Rattle.fm_local.proofs.Words.{◌∙◌, ap, Parts, subst, sym, WORKER, Place}
use Rattle.fm_local.proofs.queues.Places.{in_still}
use Rattle.fm_local.proofs.queues.ManagerWaits.{post_apart}
use Rattle.fm_local.specs.Waits.{IsApart, Waiting}
use Rattle.fm_local.proofs.parts.Parts.post.Goals as goal

pub returns-clause-makes : goal.returns-clause-makes
returns-clause-makes g c =
    let asked = c.goes_up-verdict in
    let event = rw (ap (λ m. m.work.state) c.note.ensures) at c.end_post.ensures.event in
    let same = ap (λ m. m.bases.all.items) c.end_post.ensures.kept ∙ ap (λ m. m.bases.all.items) c.note.ensures in (
      asked.result,
      asked.new.lent,
      c.end_post.result,
      asked.ensures.said,
      record { received = asked.ensures.kept; laws = c.laws.ensures },
      (asked.new.work.state, asked.ensures.rest.far, event),
      same,
    )

pub returns-clause-waits : goal.returns-clause-waits
returns-clause-waits g c there waits =
    let asked = c.goes_up-verdict in
    let noted = c.note.new.self in
    let work = asked.new.work in
    let ended = c.args.self.now.finished.items.items in
    let still = in_still WORKER (Place.Post c.args.operation c.args.instance) c.args.self.now.work.state work.state asked.ensures.rest.far there in
    let waited = asked.ensures.rest.waits ended waits in
    let apart = post_apart work.state WORKER c.args.operation c.args.instance work.resumed.items.items ended c.laws-2.ensures still waited in
    let here = subst (λ (m : Parts g.row.F.Denot g.row.B.Denot). Waiting m × IsApart c.args.operation m) (sym c.note.ensures) (waited, apart) in
    (c.end_post.ensures.waits here.0, subst (λ (m : Parts g.row.F.Denot g.row.B.Denot). IsApart c.args.operation m) (sym c.end_post.ensures.kept) (here.1))
