use Rattle.fm_core.proofs.Words.{the_view, phase_refusal_at, Some, ap, subst, sym, ◌∙◌, ◌≡◌, asked_refused_at, World}
use Rattle.fm_core.proofs.Operated.{asked_phase}
use Rattle.fm_core.proofs.state.State.on_handle.Goals as goal

pub returns-in-Some-phase_refusal_at : goal.returns-in-Some-phase_refusal_at
returns-in-Some-phase_refusal_at c =
    let old = the_view c.self.inside in
    subst (λ (w : World). asked_refused_at c.args.is_lower w c.args.handle c.args.params.now ≡ Some c.in-Some-phase_refusal_at.refusal) c.self.view_is
    (asked_phase c.args.is_lower old c.args.handle c.args.params.now c.in-Some.row c.in-Some-volume_of.volume c.in-Some-phase_refusal_at.refusal
    (sym c.is_within_limits.ensures ∙ c.if-not-is_within_limits.false) (sym c.handle.ensures ∙ c.in-Some.is) (sym c.volume_of.ensures ∙ c.in-Some-volume_of.is)
    (ap (λ o. phase_refusal_at c.args.is_lower old.flow o c.in-Some.row.phase) (sym c.operation.ensures) ∙ sym c.phase_refusal_at.ensures ∙ c.in-Some-phase_refusal_at.is))
