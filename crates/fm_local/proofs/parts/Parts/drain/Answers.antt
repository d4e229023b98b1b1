use Rattle.fm_local.proofs.Words.{Parts, subst, sym}
use Rattle.fm_local.specs.Waits.{Waiting}
use Rattle.fm_local.proofs.parts.Parts.drain.Goals as goal

pub returns-clause-waits : goal.returns-clause-waits
returns-clause-waits g c waits =
    subst (λ (m : Parts g.row.F.Denot g.row.B.Denot). Waiting m) (sym c.note.ensures)
    (c.tell.ensures.rest.waits c.args.self.now.finished.items.items waits)
