use Rattle.fm_core.proofs.Words.{subst, IsSound}
use Rattle.std.proofs.Common.{rules}
use Rattle.fm_world.proofs.Words.{RoutineReturns}
use Rattle.fm_world.proofs.Routines.{routine_returned_does}
use Rattle.fm_core.proofs.Torn.{left_tied}
use Rattle.fm_core.proofs.state.State.routine_returned.Goals as goal

pub returns-clause-event : goal.returns-clause-event
unfolding RoutineReturns
returns-clause-event c = search rules

pub invariant_of-self : goal.invariant_of-self
invariant_of-self c = record {
  sound = (routine_returned_does _ _ _ _ (returns-clause-event c)).0.sound (subst IsSound c.self.view_is c.self.invariant.sound);
  tied = left_tied c.self.inside.contexts c.leave.new.self c.args.worker.0 c.self.inside.flow c.leave.ensures.table
      c.leave.ensures.carried c.self.invariant.tied;
}
