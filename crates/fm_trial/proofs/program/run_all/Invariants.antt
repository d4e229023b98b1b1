use Rattle.std.proofs.Common.{◌≡◌, Ok, drop}
use Rattle.fm_trial.specs.Verdicts.{PassesText}
use Rattle.fm_trial.proofs.Verdicts.{Lead}
use Rattle.fm_trial.proofs.program.run_all.Given as goal

abbrev pub invariant-loop-scenario : goal.invariant-loop-scenario
invariant-loop-scenario g l =
    l.worst ≡ 0 → Lead (PassesText g.F.Minifilter (λ filters. g.E.Fn.post l.fn.make (l.fn.alloc, tt) (Ok filters))) l.texts (drop l.scenario-index l.texts)
