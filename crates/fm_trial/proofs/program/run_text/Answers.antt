use Rattle.std.proofs.Common.{◌≡◌, List, Ok, ℕ, rules, string_bytes, subst}
use Rattle.fm_trial.specs.Scenarios.{EndsScenario}
use Rattle.fm_trial.proofs.Verdicts.{passes}
use Rattle.fm_trial.proofs.program.run_text.Goals as goal

pub returns-in_ok-status-in-Ok : goal.returns-in_ok-status-in-Ok
returns-in_ok-status-in-Ok g c good =
    let text = c.in-Ok.text in
    let filters = c.in_ok-filters-in-Ok.filters in
    let status = c.in_ok-status-in-Ok.status in
    let is : c.make.result ≡ Ok filters = search rules in
    let ends = subst (λ (bytes : List ℕ). EndsScenario g.F.Minifilter filters bytes status) c.as_str.ensures.value c.in_ok-status-in-Ok.ensures in (
      text,
      filters,
      c.in-Ok.is,
      subst (λ r. g.E.Fn.post c.args.make.now (c.args.alloc, tt) r) is c.make.ensures,
      passes g.F.Minifilter filters (string_bytes text) status ends good,
    )
