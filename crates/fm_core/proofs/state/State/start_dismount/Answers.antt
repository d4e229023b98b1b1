use Rattle.fm_core.proofs.Words.{refl, subst, sym, IsSound}
use Rattle.fm_world.proofs.Words.{StartsDismount}
use Rattle.fm_world.proofs.Dismounting.{start_dismount_does}
use Rattle.fm_core.proofs.state.State.start_dismount.Goals as goal

pub returns-clause-event : goal.returns-clause-event
unfolding StartsDismount
returns-clause-event c = rw (sym c.self.view_is, sym c.left_on-left.ensures) (c.start_dismount.ensures.event, refl)

pub invariant_of-self : goal.invariant_of-self
invariant_of-self c =
    record {
      sound = (start_dismount_does _ _ _ _ (returns-clause-event c)).sound
          (subst IsSound c.self.view_is c.self.invariant.sound);
      tied = c.self.invariant.tied;
    }
