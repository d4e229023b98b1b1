use Rattle.fm_local.proofs.Words.{ap, Parts, subst, sym, WORKER}
use Rattle.fm_local.proofs.queues.SameOperations as unmoved
use Rattle.fm_local.proofs.queues.ManagerWaits.{same_flow}
use Rattle.fm_local.specs.Waits.{Waiting}
use Rattle.fm_local.proofs.parts.Parts.setup.Goals as goal

pub returns-clause-ends : goal.returns-clause-ends
returns-clause-ends g c =
    let asked = c.ask-accepts in
    rw (ap (λ m. m.work.state) c.note_left.ensures) (
      asked.new.work.state,
      asked.ensures.rest.far,
      (asked.result, asked.ensures.said, c.setup_done-ended.ensures.event),
    )

pub returns-clause-waits : goal.returns-clause-waits
returns-clause-waits g c waits =
    subst (λ (m : Parts g.row.F.Denot g.row.B.Denot). Waiting m) (sym c.note_left.ensures)
    (same_flow _ _ _ _ (unmoved.set_up c.ask-accepts.new.work.state c.setup_done-ended.new.self WORKER c.ask-accepts.result
    c.setup_done-ended.result c.setup_done-ended.ensures.event)
    (c.ask-accepts.ensures.rest.waits c.args.self.now.finished.items.items waits))
