use Rattle.fm_local.proofs.Words.{ap, Parts, subst, sym, WORKER}
use Rattle.fm_local.proofs.queues.SameOperations as unmoved
use Rattle.fm_local.proofs.queues.ManagerWaits.{same_flow}
use Rattle.fm_local.specs.Waits.{Waiting}
use Rattle.fm_local.proofs.parts.Parts.query.Goals as goal

pub returns-clause-ends : goal.returns-clause-ends
returns-clause-ends g c =
    let asked = c.ask-allows in
    rw (ap (λ m. m.work.state) c.note_left.ensures) (
      asked.new.work.state,
      asked.ensures.rest.far,
      (asked.result, asked.ensures.said, c.query_returned-ended.ensures.event),
    )

pub returns-clause-waits : goal.returns-clause-waits
returns-clause-waits g c waits =
    subst (λ (m : Parts g.row.F.Denot g.row.B.Denot). Waiting m) (sym c.note_left.ensures)
    (same_flow _ _ _ _ (unmoved.queried c.ask-allows.new.work.state c.query_returned-ended.new.self WORKER c.ask-allows.result
    c.query_returned-ended.result c.query_returned-ended.ensures.event)
    (c.ask-allows.ensures.rest.waits c.args.self.now.finished.items.items waits))
