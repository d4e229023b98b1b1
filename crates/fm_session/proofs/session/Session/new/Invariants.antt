use Rattle.std.proofs.Common.{◌≡◌, ◌≤◌, replicate}
use Rattle.fm_session.specs.declared.lent.Lent.TheVariants as lent
use Rattle.fm_session.proofs.session.Session.new.Given as goal

abbrev pub invariant-loop : goal.invariant-loop
invariant-loop l = (l.lent.items ≡ replicate l.counter lent.Nothing) × (l.counter ≤ 48)
