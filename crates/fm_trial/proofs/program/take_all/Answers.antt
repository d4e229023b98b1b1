use Rattle.std.proofs.Common.{◌≡◌, Ok, Bool, Bor, List, ℕ, map, rules, subst}
use Rattle.std.proofs.lemmas.List.{drop_more}
use Rattle.fm_trial.specs.Scenarios.{TakesLine}
use Rattle.fm_trial.proofs.LinesTaken.{Leads, one_more}
use Rattle.fm_trial.proofs.Results.{of_value}
use Rattle.fm_trial.proofs.program.take_all.Goals as goal

pub loop-place-preserved : goal.loop-place-preserved
loop-place-preserved g c =
    let now = c.loop-place.scenario in
    let text = c.without_return-line.result.now in
    let is : c.take.result ≡ Ok c.in_ok-is_known.is_known = search rules in
    let taken : TakesLine g.F.Minifilter text c.in_ok-is_known.is_known now c.take.new.self =
    of_value (λ known. TakesLine g.F.Minifilter text known now c.take.new.self) c.take.result c.in_ok-is_known.is_known is c.take.ensures in
    let leads = subst
    (λ (left : List (Bor (List ℕ))). Leads g.F.Minifilter (map (λ line. line.now) c.args.lines.now) (map (λ line. line.now) left) c.args.scenario.now now)
    (drop_more c.args.lines.now c.loop-place.place _ c.loop-place-test.true) c.loop-place.invariant in
    one_more g.F.Minifilter _ _ _ text c.args.scenario.now now c.take.new.self leads c.without_return-line.ensures
    (subst (λ (b : Bool). TakesLine g.F.Minifilter text b now c.take.new.self) c.if-not-is_known.false taken)
