use Rattle.std.proofs.Common.{List, ap, subst, sym}
use Rattle.fm_types.specs.declared.ids.OpId.{OpId}
use Rattle.fm_trial.specs.declared.scenario.Scenario.{Scenario}
use Rattle.fm_trial.specs.Scenarios.{HandsOutAll}
use Rattle.fm_trial.proofs.scenario.Scenario.take_finished.Goals as goal

pub returns-in-Objects-clause-finishes : goal.returns-in-Objects-clause-finishes
returns-in-Objects-clause-finishes g c = (
  c.say_finished.new.exec.manager,
  subst
      (λ (os : List OpId). HandsOutAll c.args.self.now.exec.manager c.args.self.now.held.items c.say_finished.new.exec.manager os)
      (sym (ap (λ (s : Scenario _). s.held.items) c.forget_report.ensures.same)) c.in_ok-say_finished.ensures,
  c.forget_report.ensures.forgets,
)
