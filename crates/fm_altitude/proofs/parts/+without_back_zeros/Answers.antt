use Rattle.std.proofs.Common.{◌∙◌}
use Rattle.fm_altitude.proofs.Grammar.{back_other, back_zero}
use Rattle.fm_altitude.proofs.parts.+without_back_zeros.Goals as goal

pub returns-then-last-eq-ZERO : goal.returns-then-last-eq-ZERO
returns-then-last-eq-ZERO t c =
    c.without_back_zeros.ensures
    ∙ back_zero c.args.digits.now c.in-Some.rest.now c.in-Some.last.now c.in-Some.ensures.cases.0 c.if-last-eq-ZERO.true

pub returns-else-last-eq-ZERO : goal.returns-else-last-eq-ZERO
returns-else-last-eq-ZERO t c =
    back_other c.args.digits.now c.in-Some.rest.now c.in-Some.last.now c.in-Some.ensures.cases.0 c.if-last-eq-ZERO.false
