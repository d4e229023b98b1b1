use Rattle.fm_core.proofs.Words.{refl, subst, sym, IsSound}
use Rattle.fm_world.proofs.Words.{FinishesVolume}
use Rattle.fm_world.proofs.Dismounting.{finish_volume_does}
use Rattle.fm_core.proofs.state.State.finish_volume.Goals as goal

pub returns-clause-event : goal.returns-clause-event
unfolding FinishesVolume
returns-clause-event c = rw (sym c.self.view_is, sym c.open_on-open.ensures) (c.finish_volume.ensures.event, refl)

pub invariant_of-self : goal.invariant_of-self
invariant_of-self c =
    record {
      sound = (finish_volume_does _ _ _ _ (returns-clause-event c)).sound (subst IsSound c.self.view_is c.self.invariant.sound);
      tied = c.self.invariant.tied;
    }
