use Rattle.fm_core.proofs.Words.{refused_in, the_view, ap, refl, subst, sym, ◌∙◌, IsSound, World}
use Rattle.fm_world.specs.ContextEvents.{left_over}
use Rattle.fm_world.proofs.Words.{Finishes}
use Rattle.fm_world.proofs.Cleanups.{finish_does}
use Rattle.fm_core.proofs.Cleaned.{only_waiting, ends_free}
use Rattle.fm_core.proofs.state.State.finish.Goals as goal

pub returns-clause-event : goal.returns-clause-event
unfolding Finishes
returns-clause-event c =
    let stays = ap refused_in (sym c.phase.ensures) ∙ sym c.refused_in.ensures ∙ c.in_default.is in
    rw (sym c.self.view_is, c.finish.ensures.event) (
      ends_free (the_view c.self.inside) c.args.instance c.left_over-left.result stays
          (c.left_over-left.ensures ∙ sym (ap (λ (w : World). left_over w c.args.instance) c.self.view_is)) c.if-left-gt0.false,
      refl,
    )

pub returns-then-left-gt0-clause-waiting : goal.returns-then-left-gt0-clause-waiting
returns-then-left-gt0-clause-waiting c =
    only_waiting c.args.instance c.self.view_is (ap refused_in (sym c.phase.ensures) ∙ sym c.refused_in.ensures ∙ c.in_default.is)
    (subst IsSound c.self.view_is c.self.invariant.sound)

pub invariant_of-self : goal.invariant_of-self
invariant_of-self c =
    record { sound = (finish_does _ _ _ _ (returns-clause-event c)).sound (subst IsSound c.self.view_is c.self.invariant.sound); tied = c.self.invariant.tied }
