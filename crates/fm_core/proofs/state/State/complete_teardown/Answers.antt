use Rattle.fm_core.proofs.Words.{refl, subst, sym, ◌∙◌, IsSound}
use Rattle.fm_world.proofs.Words.{CompletesTeardown}
use Rattle.fm_world.proofs.Detaching.{complete_teardown_does}
use Rattle.fm_core.proofs.state.State.complete_teardown.Goals as goal

pub returns-clause-event : goal.returns-clause-event
unfolding CompletesTeardown
returns-clause-event c =
    rw (
      sym c.is_idle.ensures ∙ c.if-not-is_idle.false,
      sym c.unfinished_at-unfinished.ensures,
      sym c.self.view_is,
      sym c.is_queried-is_asked.ensures,
      c.note_entering.ensures,
    )
    (c.complete_teardown-result.ensures.event, refl)

pub invariant_of-self : goal.invariant_of-self
invariant_of-self c =
    record {
      sound = (complete_teardown_does _ _ _ _ _ (returns-clause-event c)).sound
          (subst IsSound c.self.view_is c.self.invariant.sound);
      tied = c.self.invariant.tied;
    }
