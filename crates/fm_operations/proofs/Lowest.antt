-- Of a list that rises by a number, the first that passes a test has the lowest number of those that do.
use Rattle.fm_operations.proofs.Words.{ℕ, Bool, true, false, List, [], Some, None, sym, ap, arith, nat_tests, cases_Bool, inl, inr, none-some, same_Some, find}
use Rattle.fm_operations.proofs.Words.{All, All-cons, All-nil, All-weaker, AllPairs}
use Rattle.std.proofs.Common.{suc, ◌≡◌, ◌<◌, ◌≤◌, ◌==◌, ◌∷◌}
use Rattle.fm_types.proofs.Firsts.{found_holds}

abbrev Rises : {X : Type 0} → (X → ℕ) → List X → Type 0
Rises key xs = AllPairs (λ x y. key x < key y) xs

pub others_above : {X : Type 0} (key : X → ℕ) (x : X) (xs : List X) → Rises key (x ∷ xs) → All (λ y. key x < key y) xs
others_above key x xs rises = λ k d within. rises 0 (suc k) d (omega arith) (omega (arith, within))

pub rest_rises : {X : Type 0} (key : X → ℕ) (x : X) (xs : List X) → Rises key (x ∷ xs) → Rises key xs
rest_rises key x xs rises = λ i j d below within. rises (suc i) (suc j) d (omega (arith, below)) (omega (arith, within))

pub none_passes : {X : Type 0} (p : X → Bool) (xs : List X) → find p xs ≡ None → All (λ x. p x ≡ false) xs
none_passes p [] h = All-nil (λ x. p x ≡ false)
none_passes p (x ∷ xs) h = elim (cases_Bool (p x)) [
  | inl e ↦ absurd (none-some x (sym (rw e at h)))
  | inr e ↦ All-cons (λ y. p y ≡ false) x xs e (none_passes p xs (rw e at h))
]

pub lowest_passes : {X : Type 0} (key : X → ℕ) (p : X → Bool) (xs : List X) (x : X) → Rises key xs → find p xs ≡ Some x
    → All (λ y. p y ≡ true → key x ≤ key y) xs
lowest_passes key p [] x rises h = absurd (none-some x h)
lowest_passes key p (y ∷ xs) x rises h = elim (cases_Bool (p y)) [
  | inl e ↦
      let same = same_Some y x (rw e at h) in
      All-cons (λ z. p z ≡ true → key x ≤ key z) y xs (λ passes. omega (arith, ap key same))
      (All-weaker (λ z. key y < key z) (λ z. p z ≡ true → key x ≤ key z) (λ z above passes. omega (arith, above, ap key same)) xs (others_above key y xs rises))
  | inr e ↦ All-cons (λ z. p z ≡ true → key x ≤ key z) y xs (λ passes. absurd (grind (arith, e, passes)))
      (lowest_passes key p xs x (rest_rises key y xs rises) (rw e at h))
]

-- and it is found by its number
pub found_by_number : {X : Type 0} (key : X → ℕ) (p : X → Bool) (xs : List X) (x : X) → Rises key xs → find p xs ≡ Some x
    → find (λ y. key y == key x) xs ≡ Some x
found_by_number key p [] x rises h = absurd (none-some x h)
found_by_number key p (y ∷ xs) x rises h = elim (cases_Bool (p y)) [
  | inl e ↦ let same = same_Some y x (rw e at h) in let here : (key y == key x) ≡ true = grind (arith, nat_tests, ap key same) in rw here (ap Some same)
  | inr e ↦
      let rest : find p xs ≡ Some x = rw e at h in
      let above = found_holds (λ z. key y < key z) p xs x (others_above key y xs rises) rest in
      let other : (key y == key x) ≡ false = grind (arith, nat_tests, above) in
      rw other (found_by_number key p xs x (rest_rises key y xs rises) rest)
]
