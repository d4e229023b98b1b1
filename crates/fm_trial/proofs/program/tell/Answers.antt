use Rattle.std.proofs.Common.{◌∙◌, List, ℕ, ap, map, subst}
use Rattle.fm_trial.specs.Scenarios.{TakesLines}
use Rattle.fm_trial.proofs.Whole.{ends}
use Rattle.fm_trial.proofs.program.tell.Goals as goal

pub returns : goal.returns
returns g c =
    let first = c.in_ok-scenario.scenario in
    let last = c.take_all.new.scenario in
    let lines = ap (map (λ line. line.now)) c.as_slice.ensures.value ∙ c.in_ok-lines.ensures in
    ends g.F.Minifilter c.args.filters c.args.text.now first last c.in_ok-status.status c.in_ok-is_known.is_known c.in_ok-scenario.ensures
    (λ yes. subst (λ (ls : List (List ℕ)). TakesLines g.F.Minifilter ls first last) lines (c.in_ok-is_known.ensures yes)) c.in_ok-status.ensures
