use Rattle.fm_core.proofs.Words.{refl, subst, sym, ◌∙◌, IsSound}
use Rattle.fm_world.proofs.Words.{Attaches}
use Rattle.fm_world.proofs.Owning.{attach_does}
use Rattle.fm_core.proofs.state.State.attach.Goals as goal

pub returns-clause-event : goal.returns-clause-event
unfolding Attaches
returns-clause-event c = rw (sym c.is_idle.ensures ∙ c.if-not-is_idle.false, sym c.self.view_is, c.note_attach.ensures) (c.attach-result.ensures.event, refl)

pub invariant_of-self : goal.invariant_of-self
invariant_of-self c =
    record {
      sound = (attach_does _ _ _ _ _ _ _ _ (returns-clause-event c)).sound
          (subst IsSound c.self.view_is c.self.invariant.sound);
      tied = c.self.invariant.tied;
    }
