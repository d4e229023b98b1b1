use Rattle.fm_core.proofs.Words.{subst, IsSound}
use Rattle.fm_world.proofs.Words.{EntersRoutine}
use Rattle.fm_world.proofs.Routines.{enter_routine_does}
use Rattle.std.proofs.Common.{rules}
use Rattle.fm_core.proofs.state.State.enter_routine.Goals as goal

pub returns-clause-event : goal.returns-clause-event
unfolding EntersRoutine
returns-clause-event c = search rules

pub invariant_of-self : goal.invariant_of-self
invariant_of-self c = record {
  sound = (enter_routine_does _ _ _ _ _ _ (returns-clause-event c)).sound (subst IsSound c.self.view_is c.self.invariant.sound);
  tied = c.self.invariant.tied;
}
