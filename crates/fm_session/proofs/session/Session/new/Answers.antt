use Rattle.std.proofs.Common.{◌≡◌, arith, replicate, subst}
use Rattle.fm_session.specs.declared.lent.Lent.{Lent}
use Rattle.fm_session.specs.declared.lent.Lent.TheVariants as lent
use Rattle.fm_session.proofs.session.Session.new.Goals as goal

pub returns-clause-lent : goal.returns-clause-lent
returns-clause-lent c =
    let all : c.loop.counter ≡ 48 = omega arith in subst (λ n. c.loop.lent.items ≡ replicate n lent.Nothing) all c.loop.invariant.0
