use Rattle.std.proofs.Common.{Bool, subst, sym}
use Rattle.fm_trial.specs.Scenarios.{EndsAfter}
use Rattle.fm_trial.proofs.scenario.Scenario.finish.Goals as goal

pub returns : goal.returns
returns g c =
    let end = c.in_ok-status.ensures in
    subst (λ (known : Bool). EndsAfter known c.args.self.now c.in_ok-status.status) (sym c.if-not-is_known.false)
    (c.end.new.self.account, end.ends, end.status)
