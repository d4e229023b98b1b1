use Rattle.fm_local.proofs.Words.{Parts, subst, sym, WORKER}
use Rattle.fm_local.proofs.queues.LooseOperations.{post_ends}
use Rattle.fm_local.proofs.queues.Waits.{waits_on}
use Rattle.fm_local.specs.Waits.{Waiting}
use Rattle.fm_local.proofs.parts.Parts.end_post.Goals as goal

pub returns-in-Ok-clause-waits : goal.returns-in-Ok-clause-waits
returns-in-Ok-clause-waits g c waits =
    subst (λ (m : Parts g.row.F.Denot g.row.B.Denot). Waiting m) (sym c.note_left.ensures)
    (waits_on _ _ _ _ (λ p. post_ends p c.args.self.now.work.state WORKER c.laws.ensures _ c.post_returned-ended.new.self
    c.args.verdict c.args.back c.post_returned-ended.ensures.event) waits)

pub returns-in-Err-clause-waits : goal.returns-in-Err-clause-waits
returns-in-Err-clause-waits g c waits =
    subst (λ (m : Parts g.row.F.Denot g.row.B.Denot). Waiting m) (sym c.note_left.ensures)
    (waits_on _ _ _ _ (λ p. post_ends p c.args.self.now.work.state WORKER c.laws.ensures _ c.post_returned-ended.new.self
    c.args.verdict c.args.back c.post_returned-ended.ensures.event) waits)
