use Rattle.fm_ctx.proofs.Words.{ap, arith, nat_tests}
use Rattle.fm_ctx.specs.DueLists.{Waiting}
use Rattle.fm_ctx.proofs.contexts.drop_reference.Goals as goal

pub returns-then-lower-clause-due : goal.returns-then-lower-clause-due
returns-then-lower-clause-due c d = grind (arith, nat_tests, c.lower.ensures.last d, c.if-lower.true, ap (λ (w : Waiting). w.ids) c.push.ensures)

pub returns-else-lower-clause-due : goal.returns-else-lower-clause-due
returns-else-lower-clause-due c d = grind (arith, nat_tests, c.lower.ensures.last d, c.if-lower.false)
