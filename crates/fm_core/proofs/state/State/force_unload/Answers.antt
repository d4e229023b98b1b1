use Rattle.fm_core.proofs.Words.{refl, subst, sym, IsSound}
use Rattle.fm_world.proofs.Unloading.{force_unload_does}
use Rattle.fm_world.proofs.Words.{ForcesUnload}
use Rattle.fm_core.proofs.state.State.force_unload.Goals as goal

pub returns-clause-event : goal.returns-clause-event
unfolding ForcesUnload
returns-clause-event c = rw (sym c.self.view_is) (c.force_unload.ensures.event, refl)

pub invariant_of-self : goal.invariant_of-self
invariant_of-self c =
    record {
      sound = (force_unload_does _ _ _ _ (returns-clause-event c)).sound (subst IsSound c.self.view_is c.self.invariant.sound);
      tied = c.self.invariant.tied;
    }
