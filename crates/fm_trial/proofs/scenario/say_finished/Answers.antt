use Rattle.fm_trial.proofs.HandedOut.{one_more}
use Rattle.fm_trial.proofs.scenario.say_finished.Goals as goal

pub loop-preserved : goal.loop-preserved
loop-preserved g c = one_more _ c.loop.exec.manager _ _ c.loop.held.items _ c.loop.invariant c.in_ok-say_next_finished.ensures

pub returns-then-not-branch : goal.returns-then-not-branch
returns-then-not-branch g c = one_more _ c.loop.exec.manager _ _ c.loop.held.items _ c.loop.invariant c.in_ok-say_next_finished.ensures
