use Rattle.fm_local.proofs.Words.{ap, Parts, subst, sym, WORKER}
use Rattle.fm_local.proofs.queues.LooseOperations.{drain_over}
use Rattle.fm_local.proofs.queues.Waits.{waits_on}
use Rattle.fm_local.specs.Waits.{Waiting}
use Rattle.fm_local.proofs.parts.Parts.drain_early.Goals as goal

pub returns-clause-ends : goal.returns-clause-ends
returns-clause-ends g c = rw (ap (λ m. m.work.state) c.note_left.ensures) (c.drain.new.self.work.state, c.drain.ensures.far, c.drain_done-ended.ensures.event)

pub returns-clause-waits : goal.returns-clause-waits
returns-clause-waits g c waits =
    subst (λ (m : Parts g.row.F.Denot g.row.B.Denot). Waiting m) (sym c.note_left.ensures)
    (waits_on _ _ _ _ (λ p. drain_over p c.drain.new.self.work.state WORKER c.drain_done-ended.result c.drain_done-ended.new.self
    c.drain_done-ended.ensures.event) (c.drain.ensures.waits waits))
