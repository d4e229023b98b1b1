use Rattle.fm_core.proofs.Words.{Sweeping, is_lost, None, Some, refl, subst, sym, ◌∙◌}
use Rattle.fm_core.proofs.Losing.{sweeping_none, nothing_lost}
use Rattle.fm_core.proofs.target.unlink_if_gone.Goals as goal

pub returns-else-not-is_there : goal.returns-else-not-is_there
returns-else-not-is_there c =
    let there = sym c.is_there.ensures ∙ c.if-not-is_there.false in
    subst (λ o. Sweeping (is_lost c.args.files.now.table o) c.args.contexts.now c.args.contexts.now) (sym c.in-Some.is)
    (sweeping_none (is_lost c.args.files.now.table (Some c.in-Some.object)) c.args.contexts.now
    (λ x. nothing_lost c.args.files.now.table c.in-Some.object x there))

pub returns-in_default : goal.returns-in_default
returns-in_default c =
    subst (λ o. Sweeping (is_lost c.args.files.now.table o) c.args.contexts.now c.args.contexts.now) (sym c.in_default.is)
    (sweeping_none (is_lost c.args.files.now.table None) c.args.contexts.now (λ x. refl))
