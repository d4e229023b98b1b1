use Rattle.std.proofs.Common.{◌∙◌, Ok, subst, sym}
use Rattle.std.proofs.lemmas.List.{drop_all}
use Rattle.std.proofs.lemmas.List.Elements.{All-nil}
use Rattle.std.specs.List.{All}
use Rattle.fm_trial.specs.Verdicts.{PassesText}
use Rattle.fm_trial.proofs.Verdicts.{both_good, one_less}
use Rattle.fm_trial.proofs.program.run_all.Goals as goal

pub loop-scenario-preserved : goal.loop-scenario-preserved
loop-scenario-preserved g c good =
    let Passes = PassesText g.F.Minifilter (λ filters. g.E.Fn.post c.args.make.now (c.args.alloc, tt) (Ok filters)) in
    let both = both_good c.loop-scenario.worst c.in_ok-status.status (sym c.worse-worst.ensures ∙ good) in
    one_less Passes c.args.texts.now c.loop-scenario.scenario-index _ c.loop-scenario-test.true (c.loop-scenario.invariant both.0)
    (subst Passes c.scenario-item.is (c.in_ok-status.ensures both.1))

pub returns : goal.returns
returns g c good =
    let Passes = PassesText g.F.Minifilter (λ filters. g.E.Fn.post c.args.make.now (c.args.alloc, tt) (Ok filters)) in
    c.loop-scenario.invariant good
    (subst (All Passes) (sym (drop_all c.loop-scenario.scenario-index c.args.texts.now c.loop-scenario-test.false)) (All-nil Passes))
