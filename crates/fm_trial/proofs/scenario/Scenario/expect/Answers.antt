use Rattle.std.proofs.Common.{rules}
use Rattle.fm_trial.proofs.Accounts.{counts_met, counts_unmet}
use Rattle.fm_trial.proofs.scenario.Scenario.expect.Goals as goal
use Rattle.fm_trial.proofs.scenario.Scenario.expect.Goals.{then-not-is_met, else-not-is_met}

pub returns-clause-expects : goal.returns-clause-expects
returns-clause-expects g c = (
  c.is_met-is_met.result,
  c.is_met-is_met.new.self.account,
  c.is_met-is_met.ensures.met,
  elim c.if-not-is_met.branch [
    | then-not-is_met w ↦ search (rules, counts_unmet)
    | else-not-is_met w ↦ search (rules, counts_met)
  ],
)
