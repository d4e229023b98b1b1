-- What a binary search finds in a list that rises by a number.
use Rattle.std.proofs.Common.{◌∷◌, [], ◌⊎◌, ◌≡◌, ℕ, ◌<◌, ◌≤◌, ◌==◌, List, length, get_or, Result, Ok, Err, Some, None, true, false, position, refl, inl, inr, arith}
use Rattle.std.specs.Prelude.{AllPairs}
use Rattle.std.specs.Result.{result_ok}
use Rattle.std.specs.List.{position_or_len}
use Rattle.std.specs.List.Sorted.{IsBinarySearchResult, IsNonDecreasingBy, IsSearchInRange}
use Rattle.std.specs.Ordering.{nat_cmp, ordering_index}
use Rattle.std.proofs.Common.{Less, Equal, Greater, Bool}
use Rattle.std.proofs.lemmas.Bool.{cases_order}
use Rattle.std.proofs.lemmas.Bool.Decides.{nat_tests}
use Rattle.std.proofs.lemmas.List.Sums.{position_or_len_is}

same : (a n : ℕ) → a ≡ n → (a == n) ≡ true
same a n h = grind (arith, nat_tests)

index_rises : (a b n : ℕ) → a ≤ b → ordering_index (nat_cmp a n) ≤ ordering_index (nat_cmp b n)
index_rises a b n h = grind (arith, nat_tests)

placed : {X : Type 0} (p : X → Bool) (xs : List X) (k : ℕ) → position_or_len p xs ≡ k → k < length xs → Some k ≡ position p xs
placed p xs k is below = grind (arith, nat_tests)

absent : {X : Type 0} (p : X → Bool) (xs : List X) → position_or_len p xs ≡ length xs → None ≡ position p xs
absent p xs is = grind (arith, nat_tests)

-- what stands before the one of that number has another number
apart : (a b n : ℕ) → a < b → b ≡ n → (a == n) ≡ false
apart a b n below is = grind (arith, nat_tests)

equal_number : (a n : ℕ) → nat_cmp a n ≡ Equal → a ≡ n
equal_number a n h = grind (arith, nat_tests)

tested : (a n : ℕ) → (nat_cmp a n ≡ Less) ⊎ (nat_cmp a n ≡ Greater) → (a == n) ≡ false
tested a n h = grind (arith, nat_tests)

-- the numbers rise, so what a comparison with n says of them does too
searchable : {X : Type 0} (key : X → ℕ) (n : ℕ) (xs : List X) → AllPairs (λ x y. key x < key y) xs
    → IsNonDecreasingBy (λ y. ordering_index (nat_cmp (key y) n)) xs
searchable key n xs rises i j d upto within = elim (cases_order i j) [
  | inl is ↦ rw is (omega arith)
  | inr (inl below) ↦ index_rises (key (get_or xs i d)) (key (get_or xs j d)) n (omega (arith, rises i j d below within))
  | inr (inr above) ↦ absurd (omega (arith, upto, above))
]

-- what has that number is the first that has it
pub stands_rising : {X : Type 0} (key : X → ℕ) (n : ℕ) (xs : List X) (k : ℕ) (d : X) → AllPairs (λ x y. key x < key y) xs
    → k < length xs → key (get_or xs k d) ≡ n → Some k ≡ position (λ x. key x == n) xs
stands_rising key n xs k d rises within is =
    placed (λ y. key y == n) xs k
    (position_or_len_is (λ y. key y == n) xs k d (omega (arith, within))
    (λ j below. apart (key (get_or xs j d)) (key (get_or xs k d)) n (rises j k d below within) is)
    (λ below. same (key (get_or xs k d)) n is))
    within

-- what the search finds is the first of that number
pub found_rising : {X : Type 0} (key : X → ℕ) (n : ℕ) (xs : List X) (r : Result ℕ ℕ) → AllPairs (λ x y. key x < key y) xs
    → IsSearchInRange r (length xs) → IsBinarySearchResult (λ y. nat_cmp (key y) n) xs r → result_ok r ≡ position (λ x. key x == n) xs
found_rising key n [] (Ok i) rises within found = absurd (omega (arith, within))
found_rising key n (x ∷ xs) (Ok i) rises within found =
    stands_rising key n (x ∷ xs) i x rises within (equal_number (key (get_or (x ∷ xs) i x)) n (found x))
found_rising key n [] (Err i) rises within found = refl
found_rising key n (x ∷ xs) (Err i) rises within found =
    let parts = found (searchable key n (x ∷ xs) rises) in
    absent (λ y. key y == n) (x ∷ xs)
    (position_or_len_is (λ y. key y == n) (x ∷ xs) (length (x ∷ xs)) x (omega arith)
    (λ k below. elim (cases_order k i) [
      | inl is ↦ tested (key (get_or (x ∷ xs) k x)) n (inr (parts.1 k x (omega (arith, is)) below))
      | inr (inl low) ↦ tested (key (get_or (x ∷ xs) k x)) n (inl (parts.0 k x (omega arith) low))
      | inr (inr high) ↦ tested (key (get_or (x ∷ xs) k x)) n (inr (parts.1 k x (omega (arith, high)) below))
    ])
    (λ below. absurd (omega (arith, below))))
