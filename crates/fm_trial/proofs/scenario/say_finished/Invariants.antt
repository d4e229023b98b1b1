use Rattle.fm_trial.specs.Scenarios.{HandsOutAll}
use Rattle.fm_trial.proofs.scenario.say_finished.Given as goal

abbrev pub invariant-loop : goal.invariant-loop
invariant-loop g l = HandsOutAll l.initial.exec.manager l.initial.held.items l.exec.manager l.held.items
