use Rattle.std.proofs.Common.{◌≡◌, Ok, rules}
use Rattle.fm_trial.specs.Scenarios.{IsFresh}
use Rattle.fm_trial.proofs.Fields.{begins}
use Rattle.fm_trial.proofs.Results.{of_value}
use Rattle.fm_trial.proofs.program.begin.Goals as goal

pub returns : goal.returns
returns g c =
    let made = c.in_ok-scenario.scenario in
    let is : c.new.result ≡ Ok made = search rules in
    begins c.args.filters made c.begin.new.self c.begin.ensures (of_value (IsFresh c.args.filters) c.new.result made is c.new.ensures)
