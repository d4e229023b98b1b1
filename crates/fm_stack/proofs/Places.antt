-- Lists with one more element and with one fewer, and what searches find, by look-ups.
use Rattle.fm_stack.proofs.Words.{cases_Bool, all_pairs_from_slice_get, pair_at}
use Rattle.std.proofs.Common.{◌≡◌, ◌≢◌, ◌⊎◌, ◌∙◌, ◌+◌, ◌<◌, ◌≤◌, ℕ, zero, suc, Bool, true, false, cond, List, [], ◌∷◌, length, AllPairs}
use Rattle.std.proofs.Common.{slice_get, get_or, drop, find, position, Some, None, refl, sym, ap, subst, arith, inl, inr}
use Rattle.std.specs.List.{insert, list_any, remove}
use Rattle.std.proofs.lemmas.List.Folds.{list_any_at}
use Rattle.std.proofs.lemmas.List.Quantifiers.{position-Some}
use Rattle.std.proofs.lemmas.Option.{same_Some, none-some, slice_get-get_or, get_or_from_slice_get, slice_get_within}
use Rattle.fm_types.proofs.Firsts.{absent}

-- ---- one more ----

pub insert_cases : {X : Type 0} (xs : List X) (i k : ℕ) (x y : X) → i ≤ length xs → slice_get (insert xs i x) k ≡ Some y
    → ((k < i) × (slice_get xs k ≡ Some y)) ⊎ (((k ≡ i) × (y ≡ x)) ⊎ ((j : ℕ) × (k ≡ suc j) × (i ≤ j) × (slice_get xs j ≡ Some y)))
insert_cases xs zero zero x y inside there = inr (inl (refl, sym (same_Some x y there)))
insert_cases xs zero (suc k) x y inside there = inr (inr (k, refl, omega arith, there))
insert_cases [] (suc i) k x y inside there = absurd (omega (arith, inside))
insert_cases (z ∷ xs) (suc i) zero x y inside there = inl (omega arith, there)
insert_cases (z ∷ xs) (suc i) (suc k) x y inside there =
    elim (insert_cases xs i k x y (omega (arith, inside)) there) [
      | inl before ↦ inl (omega (arith, before.0), before.1)
      | inr (inl at) ↦ inr (inl (ap suc at.0, at.1))
      | inr (inr behind) ↦ inr (inr (suc behind.0, ap suc behind.1, omega (arith, behind.2), behind.3))
    ]

pub inserted_there : {X : Type 0} (xs : List X) (i : ℕ) (x : X) → i ≤ length xs → slice_get (insert xs i x) i ≡ Some x
inserted_there xs zero x inside = refl
inserted_there [] (suc i) x inside = absurd (omega (arith, inside))
inserted_there (z ∷ xs) (suc i) x inside = inserted_there xs i x (omega (arith, inside))

pub insert_keeps : {X : Type 0} (xs : List X) (i k : ℕ) (x y : X) → slice_get xs k ≡ Some y → (j : ℕ) × (slice_get (insert xs i x) j ≡ Some y)
insert_keeps xs zero k x y there = (suc k, there)
insert_keeps [] (suc i) k x y there = absurd (none-some y there)
insert_keeps (z ∷ xs) (suc i) zero x y there = (zero, there)
insert_keeps (z ∷ xs) (suc i) (suc k) x y there = let rest = insert_keeps xs i k x y there in (suc rest.0, rest.1)

-- a fact on each two, where what was inserted has it with those before it and with those behind
pub all_pairs_insert : {X : Type 0} (R : X → X → Type 0) (xs : List X) (i : ℕ) (x : X) → i ≤ length xs → AllPairs R xs
    → ((k : ℕ) (y : X) → k < i → slice_get xs k ≡ Some y → R y x) → ((k : ℕ) (y : X) → i ≤ k → slice_get xs k ≡ Some y → R x y)
    → AllPairs R (insert xs i x)
all_pairs_insert R xs i x inside pairs before behind =
    all_pairs_from_slice_get R (insert xs i x) (λ k l a b below first second.
    elim (insert_cases xs i k x a inside first) [
      | inl front ↦
          elim (insert_cases xs i l x b inside second) [
            | inl next ↦ pair_at R xs k l a b pairs below front.1 next.1
            | inr (inl at) ↦ subst (λ v. R a v) (sym at.1) (before k a front.0 front.1)
            | inr (inr next) ↦ pair_at R xs k next.0 a b pairs (omega (arith, front.0, next.2)) front.1 next.3
          ]
      | inr (inl at) ↦
          elim (insert_cases xs i l x b inside second) [
            | inl next ↦ absurd (omega (arith, below, at.0, next.0))
            | inr (inl again) ↦ absurd (omega (arith, below, at.0, again.0))
            | inr (inr next) ↦ subst (λ v. R v b) (sym at.1) (behind next.0 b next.2 next.3)
          ]
      | inr (inr front) ↦
          elim (insert_cases xs i l x b inside second) [
            | inl next ↦ absurd (omega (arith, below, front.1, front.2, next.0))
            | inr (inl at) ↦ absurd (omega (arith, below, front.1, front.2, at.0))
            | inr (inr next) ↦ pair_at R xs front.0 next.0 a b pairs (omega (arith, below, front.1, next.1)) front.3 next.3
          ]
    ])

-- ---- one fewer ----

pub remove_cases : {X : Type 0} (xs : List X) (i k : ℕ) (y : X) → slice_get (remove xs i) k ≡ Some y → (j : ℕ) × (slice_get xs j ≡ Some y) × (j ≢ i)
remove_cases [] zero k y there = absurd (none-some y there)
remove_cases [] (suc i) k y there = absurd (none-some y there)
remove_cases (z ∷ xs) zero k y there = (suc k, there, λ is. omega (arith, is))
remove_cases (z ∷ xs) (suc i) zero y there = (zero, there, λ is. omega (arith, is))
remove_cases (z ∷ xs) (suc i) (suc k) y there =
    let rest = remove_cases xs i k y there in (suc rest.0, rest.1, λ is. rest.2 (omega (arith, is)))

pub remove_keeps : {X : Type 0} (xs : List X) (i k : ℕ) (y : X) → slice_get xs k ≡ Some y → k ≢ i → (j : ℕ) × (slice_get (remove xs i) j ≡ Some y)
remove_keeps [] i k y there other = absurd (none-some y there)
remove_keeps (z ∷ xs) zero zero y there other = absurd (other refl)
remove_keeps (z ∷ xs) zero (suc k) y there other = (k, there)
remove_keeps (z ∷ xs) (suc i) zero y there other = (zero, there)
remove_keeps (z ∷ xs) (suc i) (suc k) y there other =
    let rest = remove_keeps xs i k y there (λ is. other (ap suc is)) in (suc rest.0, rest.1)

-- ---- what is found ----

-- element y stands at place k and passes, and none before it does
pub record IsFirst {X : Type 0} (p : X → Bool) (xs : List X) (y : X) : Type 0 where
  pub place : ℕ
  pub there : slice_get xs place ≡ Some y
  pub passes : p y ≡ true
  pub first : (j : ℕ) (z : X) → j < place → slice_get xs j ≡ Some z → p z ≡ false

earlier : {X : Type 0} (p : X → Bool) (x : X) (xs : List X) (n : ℕ) → p x ≡ false → ((j : ℕ) (z : X) → j < n → slice_get xs j ≡ Some z → p z ≡ false)
    → (j : ℕ) (z : X) → j < suc n → slice_get (x ∷ xs) j ≡ Some z → p z ≡ false
earlier p x xs n fails rest zero z before there = subst (λ v. p v ≡ false) (same_Some x z there) fails
earlier p x xs n fails rest (suc j) z before there = rest j z (omega (arith, before)) there

pub found : {X : Type 0} (p : X → Bool) (xs : List X) (y : X) → find p xs ≡ Some y → IsFirst p xs y
found p [] y is = absurd (none-some y is)
found p (x ∷ xs) y is =
    elim (cases_Bool (p x)) [
      | inl passes ↦
          let same : x ≡ y = same_Some x y (sym (ap (λ b. cond b (Some x) (find p xs)) passes) ∙ is) in
          record { place = 0; there = ap Some same; passes = subst (λ v. p v ≡ true) same passes; first = λ j z before there. absurd (omega (arith, before)) }
      | inr fails ↦
          let rest = found p xs y (sym (ap (λ b. cond b (Some x) (find p xs)) fails) ∙ is) in
          record { place = suc rest.place; there = rest.there; passes = rest.passes; first = earlier p x xs rest.place fails rest.first }
    ]

pub not_found : {X : Type 0} (p : X → Bool) (xs : List X) → find p xs ≡ None → (j : ℕ) (z : X) → slice_get xs j ≡ Some z → p z ≡ false
not_found p [] is j z there = absurd (none-some z there)
not_found p (x ∷ xs) is j z there =
    elim (cases_Bool (p x)) [
      | inl passes ↦ absurd (none-some x (sym is ∙ ap (λ b. cond b (Some x) (find p xs)) passes))
      | inr fails ↦
          let rest = not_found p xs (sym (ap (λ b. cond b (Some x) (find p xs)) fails) ∙ is) in
          earlier p x xs (suc j) fails (λ i y before at. rest i y at) j z (omega arith) there
    ]

pub place_found : {X : Type 0} (p : X → Bool) (xs : List X) (k : ℕ) → position p xs ≡ Some k
    → (y : X) × (slice_get xs k ≡ Some y) × (p y ≡ true) × ((j : ℕ) (z : X) → j < k → slice_get xs j ≡ Some z → p z ≡ false)
place_found p [] k is = absurd (none-some k is)
place_found p (x ∷ xs) k is =
    let at = position-Some p (x ∷ xs) k x is in
    (get_or (x ∷ xs) k x, slice_get-get_or (x ∷ xs) k x at.0, at.1, λ j z before there. ap p (sym (get_or_from_slice_get (x ∷ xs) j z x there)) ∙ at.2 j before)

pub no_place : {X : Type 0} (p : X → Bool) (xs : List X) → position p xs ≡ None → (j : ℕ) (z : X) → slice_get xs j ≡ Some z → p z ≡ false
no_place p xs is = not_found p xs (absent p xs is)

-- an element that passes is one
pub some_passes : {X : Type 0} (p : X → Bool) (xs : List X) (k : ℕ) (x : X) → slice_get xs k ≡ Some x → p x ≡ true → list_any p xs ≡ true
some_passes p xs k x there passes =
    list_any_at p xs k x (slice_get_within xs k x there) (ap p (get_or_from_slice_get xs k x x there) ∙ passes)

-- a test that no element passes fails at each
pub none_passes : {X : Type 0} (p : X → Bool) (xs : List X) (k : ℕ) (x : X) → list_any p xs ≡ false → slice_get xs k ≡ Some x → p x ≡ false
none_passes p xs k x none there =
    elim (cases_Bool (p x)) [
      | inl passes ↦ let wrong : true ≡ false = sym (some_passes p xs k x there passes) ∙ none in cc
      | inr fails ↦ fails
    ]

-- a look-up behind the first n
pub slice_get-drop : {X : Type 0} (xs : List X) (n k : ℕ) → slice_get (drop n xs) k ≡ slice_get xs (n + k)
slice_get-drop xs zero k = let e : 0 + k ≡ k = omega arith in rw e refl
slice_get-drop [] (suc n) k = refl
slice_get-drop (x ∷ xs) (suc n) k = let e : suc n + k ≡ suc (n + k) = omega arith in rw e (slice_get-drop xs n k)
