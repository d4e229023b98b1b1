-- A list that is searched row by row, from its front or from its end.
use Rattle.std.proofs.Common.{◌≡◌, ◌<◌, ◌≤◌, ◌+◌, ◌++◌, ℕ, Bool, cond, not, nat_lt, List, length, take, drop, reverse, Some, None, sym, ap, ◌∙◌, arith}
use Rattle.std.proofs.lemmas.Bool.Decides.{nat_tests}
use Rattle.std.proofs.lemmas.Grind.{common_steps}
use Rattle.std.proofs.lemmas.List.{length-reverse, reverse-append, take-append-drop}
use Rattle.std.proofs.lemmas.List.Folds.{prefix_len-append}
use Rattle.std.specs.List.{position, position_or_len}
use Rattle.fm_words.proofs.Rows.{none_passes}

some_within : (n len k : ℕ) → cond (nat_lt n len) (Some n) None ≡ Some k → (n ≡ k) × (n < len)
some_within n len k h = grind (arith, nat_tests, common_steps)

joined_some : {X : Type 0} (p : X → Bool) (row behind : List X) (k : ℕ) → position p row ≡ Some k → position_or_len p (row ++ behind) ≡ k
joined_some p row behind k is =
    let at = some_within (position_or_len p row) (length row) k is in
    prefix_len-append (λ x. not (p x)) row behind ∙ grind (arith, nat_tests, at.0, at.1)

joined_none : {X : Type 0} (p : X → Bool) (row behind : List X) → position p row ≡ None
    → position_or_len p (row ++ behind) ≡ length row + position_or_len p behind
joined_none p row behind is =
    let all = none_passes p row is in
    prefix_len-append (λ x. not (p x)) row behind ∙ grind (arith, nat_tests, all)

reversed : {X : Type 0} (n : ℕ) (xs : List X) → reverse xs ≡ reverse (drop n xs) ++ reverse (take n xs)
reversed n xs = ap reverse (sym (take-append-drop n xs)) ∙ reverse-append (take n xs) (drop n xs)

pub in_row : {X : Type 0} (p : X → Bool) (n k : ℕ) (xs : List X) → position p (reverse (drop n xs)) ≡ Some k → position_or_len p (reverse xs) ≡ k
in_row p n k xs is = ap (position_or_len p) (reversed n xs) ∙ joined_some p (reverse (drop n xs)) (reverse (take n xs)) k is

pub past_row : {X : Type 0} (p : X → Bool) (n : ℕ) (xs : List X) → position p (reverse (drop n xs)) ≡ None
    → position_or_len p (reverse xs) ≡ length (drop n xs) + position_or_len p (reverse (take n xs))
past_row p n xs is =
    ap (position_or_len p) (reversed n xs) ∙ joined_none p (reverse (drop n xs)) (reverse (take n xs)) is
    ∙ ap (λ (m : ℕ). m + position_or_len p (reverse (take n xs))) (length-reverse (drop n xs))
