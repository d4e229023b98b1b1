use Rattle.fm_local.proofs.Words.{◌∙◌, refl, sym, false≢true}
use Rattle.fm_local.proofs.parts.Parts.then_close.Goals as goal

pub returns-then-not-goes_on-clause-does : goal.returns-then-not-goes_on-clause-does
returns-then-not-goes_on-clause-does g c ready over = absurd (false≢true (sym (sym c.goes_on.ensures ∙ c.if-not-goes_on.true) ∙ over))

pub returns-clause-stops : goal.returns-clause-stops
returns-clause-stops g c stops = absurd (false≢true (sym stops ∙ sym c.goes_on.ensures ∙ c.if-not-goes_on.false))

pub returns-then-not-goes_on-clause-closes : goal.returns-then-not-goes_on-clause-closes
returns-then-not-goes_on-clause-closes g c = rw (sym c.goes_on.ensures ∙ c.if-not-goes_on.true) (refl, refl)

pub returns-clause-closes : goal.returns-clause-closes
returns-clause-closes g c = rw (sym c.goes_on.ensures ∙ c.if-not-goes_on.false) c.perform_alone.ensures.performs
