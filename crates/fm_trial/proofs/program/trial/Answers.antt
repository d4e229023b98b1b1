use Rattle.std.proofs.Common.{List, Ok, subst}
use Rattle.std.specs.List.{All}
use Rattle.fm_trial.specs.declared.scenario_text.ScenarioText.{ScenarioText}
use Rattle.fm_trial.specs.Verdicts.{PassesText}
use Rattle.fm_trial.proofs.program.trial.Goals as goal

pub returns : goal.returns
returns g c good =
    let alloc = c.alloc-alloc.result in
    let all = subst (λ (texts : List ScenarioText). All (PassesText g.F.Minifilter (λ filters. g.E.Fn.post c.args.make (alloc, tt) (Ok filters))) texts)
    c.as_slice.ensures.value (c.in_ok-status.ensures good) in (
      c.in_ok-texts.texts.items,
      c.in_ok-texts.ensures,
      λ k d inside. let passes = all k d inside in (passes.0, passes.1, passes.2, (alloc, passes.3), passes.4),
    )
