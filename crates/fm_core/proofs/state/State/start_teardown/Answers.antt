use Rattle.fm_core.proofs.Words.{refl, subst, sym, ◌∙◌, IsSound}
use Rattle.fm_world.proofs.Words.{StartsTeardown}
use Rattle.fm_world.proofs.Detaching.{start_teardown_does}
use Rattle.fm_core.proofs.state.State.start_teardown.Goals as goal

pub returns-clause-event : goal.returns-clause-event
unfolding StartsTeardown
returns-clause-event c =
    rw (sym c.is_idle.ensures ∙ c.if-not-is_idle.false, sym c.self.view_is, c.note_entering.ensures) (c.start_teardown-result.ensures.event, refl)

pub invariant_of-self : goal.invariant_of-self
invariant_of-self c =
    record {
      sound = (start_teardown_does _ _ _ _ _ (returns-clause-event c)).sound
          (subst IsSound c.self.view_is c.self.invariant.sound);
      tied = c.self.invariant.tied;
    }
