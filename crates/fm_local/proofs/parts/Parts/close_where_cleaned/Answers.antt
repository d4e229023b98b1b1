use Rattle.fm_local.proofs.Words.{◌∙◌, refl, sym, false≢true}
use Rattle.fm_local.proofs.parts.Parts.close_where_cleaned.Goals as goal

pub returns-then-not-is_over-clause-does : goal.returns-then-not-is_over-clause-does
returns-then-not-is_over-clause-does g c ready over = absurd (false≢true (sym (sym c.is_over.ensures ∙ c.if-not-is_over.true) ∙ over))

pub returns-then-not-is_over-clause-closes : goal.returns-then-not-is_over-clause-closes
returns-then-not-is_over-clause-closes g c = rw (sym c.is_over.ensures ∙ c.if-not-is_over.true) (c.refusal.ensures, refl)

pub returns-clause-closes : goal.returns-clause-closes
returns-clause-closes g c = rw (sym c.is_over.ensures ∙ c.if-not-is_over.false) c.perform.ensures.requests
