-- What a good status says.
use Rattle.std.proofs.Common.{arith, ◌≡◌, ◌∙◌, ◌+◌, ◌++◌, ◌∷◌, ◌<◌, [], Bool, List, ℕ, add-zero, ap, cond, count_by, drop, false, get_or, inl, inr, length, nat_eq, refl, subst, sym, true}
use Rattle.std.proofs.lemmas.List.{drop_more}
use Rattle.std.proofs.lemmas.List.Elements.{All-cons}
use Rattle.std.proofs.lemmas.List.Sums.{sum_by_push}
use Rattle.std.specs.Global.{Vec}
use Rattle.std.specs.List.{All}
use Rattle.fm_filter.specs.declared.minifilter.Minifilter as filter
use Rattle.fm_mistakes.specs.declared.account.Account.{Account}
use Rattle.fm_types.specs.declared.ids.OpId.{OpId}
use Rattle.fm_mistakes.specs.Accounts.{is_told_leak, status_of, told_leaks}
use Rattle.fm_trial.specs.declared.scenario.Scenario.{Scenario}
use Rattle.fm_trial.specs.Scenarios.{CountsDropped, Ends, EndsAs, EndsScenario}
use Rattle.fm_trial.specs.Verdicts.{IsWell, Passes, TellsLeaks, worse}

-- of two statuses the one that says more is 0 only if both are
pub both_good : (one other : ℕ) → worse one other ≡ 0 → (one ≡ 0) × (other ≡ 0)
both_good one other is = (grind (is, arith), grind (is, arith))

module _ {X : Type 0} (P : X → Type 0) where
  -- with those that are left all are so
  abbrev pub Lead : List X → List X → Type 0
  Lead all left = All P left → All P all

  pub one_less : (all : List X) (place : ℕ) (d : X) → place < length all → Lead all (drop place all) → P (get_or all place d) → Lead all (drop (place + 1) all)
  one_less all place d inside leads so rest = leads (subst (All P) (sym (drop_more all place d inside)) (All-cons P (get_or all place d) (drop (place + 1) all) so rest))

-- a scenario that ends with 0 came to no trouble
pub well : (a : Account) → status_of a ≡ 0 → IsWell a
well a is = record { expected = grind (is, arith); met = grind (is, arith); kept = grind (is, arith) }

-- one more that isn't counted
pub no_more : {X : Type 0} (p : X → Bool) (xs : List X) (x : X) → p x ≡ false → count_by p (xs ++ x ∷ []) ≡ count_by p xs
no_more p xs x is = sum_by_push (λ y. cond (p y) 1 0) xs x ∙ ap (λ b. count_by p xs + cond b 1 0) is ∙ add-zero (count_by p xs)

pub same_number : (a b : ℕ) → nat_eq a b ≡ true → a ≡ b
same_number a b is = grind (is, arith)

-- what was told stays told, and what wasn't kept stays counted
module _ (counted : Account) where
  pub same_leaks : (held : List OpId) (end : Account) → EndsAs held counted end → told_leaks end ≡ told_leaks counted
  same_leaks [] end same = ap told_leaks same
  same_leaks (o ∷ held) end ends = ap (count_by is_told_leak) ends.1 ∙ no_more is_told_leak counted.told.items _ refl

  pub same_dropped : (held : List OpId) (end : Account) → EndsAs held counted end → end.dropped ≡ counted.dropped
  same_dropped [] end same = ap (λ (a : Account). a.dropped) same
  same_dropped (o ∷ held) end ends = ap (λ (a : Account). a.dropped) ends.0

-- where nothing was left out, as many were told as there are
pub all_told : (b : Bool) (asked counted : Account) → CountsDropped b asked counted → counted.dropped ≡ 0 → (b ≡ true) × (counted ≡ asked)
all_told true asked counted same none = (refl, same)
all_told false asked counted more none = absurd (omega (arith, more.1, none))

pub tells_leaks : {F : Type 0} (last : Scenario F) (end : Account) → Ends last end → end.dropped ≡ 0 → TellsLeaks last end
tells_leaks last end ends none =
    let all = all_told _ ends.heard ends.counted ends.left (sym (same_dropped ends.counted last.held.items end ends.holds) ∙ none) in
    same_leaks ends.counted last.held.items end ends.holds ∙ ap told_leaks all.1 ∙ same_number _ _ all.0

pub passes : {F : Type 0} (f : filter.Ghosts F) (filters : Vec (List ℕ × F)) (text : List ℕ) (status : ℕ) → EndsScenario f filters text status → status ≡ 0
    → Passes f filters text
passes f filters text status (inl two) good = absurd (omega (arith, two, good))
passes f filters text status (inr ended) good =
    let is = well ended.0 (sym ended.2 ∙ good) in (ended.0, ended.1, is, tells_leaks ended.1.last ended.0 ended.1.ends is.kept)
