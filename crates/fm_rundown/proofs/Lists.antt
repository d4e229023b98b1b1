-- Lists where one element was changed: sums, tests of some element, and look-ups.
use Rattle.fm_rundown.proofs.Words.{or_from, or_left, or_right, or_cases, sum_by-set, some, some-injective, some-ne-none, get_elem?}
use Rattle.std.proofs.Common.{◌≡◌, ◌+◌, ◌<◌, ℕ, zero, suc, List, [], ◌∷◌, Bool, true, false, ◌||◌, All, get_or, set, length, sum_by}
use Rattle.std.proofs.Common.{replicate, ◌++◌, refl, ap, sym, ◌∙◌, arith, subst, inl, inr}
use Rattle.std.specs.List.{list_any}

-- a look-up that finds an element, by its place
pub found : {X : Type 0} (xs : List X) (k : ℕ) (x : X) → get_elem? xs k ≡ some x → (k < length xs) × ((d : X) → get_or xs k d ≡ x)
found [] k x at = absurd (some-ne-none x (sym at))
found (y ∷ xs) zero x at = (omega arith, λ d. some-injective y x at)
found (y ∷ xs) (suc k) x at = let rest = found xs k x at in (omega (arith, rest.0), rest.1)

-- a sum after one element was changed
pub sum_changed : {X : Type 0} (f : X → ℕ) (xs : List X) (k : ℕ) (x y : X) → get_elem? xs k ≡ some x → sum_by f (set xs k y) + f x ≡ sum_by f xs + f y
sum_changed f xs k x y at = let here = found xs k x at in ap (λ z. sum_by f (set xs k y) + f z) (sym (here.1 x)) ∙ sum_by-set f xs k y x here.0

-- a fact on each element holds of the one that a look-up finds
pub all_found : {X : Type 0} (P : X → Type 0) (xs : List X) (k : ℕ) (x : X) → All P xs → get_elem? xs k ≡ some x → P x
all_found P xs k x all at = let here = found xs k x at in subst P (here.1 x) (all k x here.0)

-- a test of some element, where the changed one answers as before
pub any_changed : {X : Type 0} (test : X → Bool) (xs : List X) (k : ℕ) (x y : X) → get_elem? xs k ≡ some x → test y ≡ test x
    → list_any test (set xs k y) ≡ list_any test xs
any_changed test [] k x y at same = refl
any_changed test (z ∷ xs) zero x y at same = ap (λ b. b || list_any test xs) (same ∙ ap test (sym (some-injective z x at)))
any_changed test (z ∷ xs) (suc k) x y at same = ap (λ b. test z || b) (any_changed test xs k x y at same)

-- and where the changed one passes
pub any_passes : {X : Type 0} (test : X → Bool) (xs : List X) (k : ℕ) (x y : X) → get_elem? xs k ≡ some x → test y ≡ true
    → list_any test (set xs k y) ≡ true
any_passes test [] k x y at passes = absurd (some-ne-none x (sym at))
any_passes test (z ∷ xs) zero x y at passes = ap (λ b. b || list_any test xs) passes
any_passes test (z ∷ xs) (suc k) x y at passes =
    or_right (test z) (list_any test (set xs k y)) (any_passes test xs k x y at passes)

-- where none passes
pub any_none : {X : Type 0} (test : X → Bool) (xs : List X) → All (λ x. test x ≡ false) xs → list_any test xs ≡ false
any_none test [] none = refl
any_none test (x ∷ xs) none =
    or_from (test x) (list_any test xs) (none 0 x (omega arith)) (any_none test xs (λ k d within. none (suc k) d (omega (arith, within))))

-- a test of some element, after one that fails it was pushed
pub any_pushed : {X : Type 0} (test : X → Bool) (xs : List X) (y : X) → test y ≡ false → list_any test (xs ++ y ∷ []) ≡ list_any test xs
any_pushed test [] y fails = ap (λ b. b || false) fails
any_pushed test (x ∷ xs) y fails = ap (λ b. test x || b) (any_pushed test xs y fails)

-- each look-up in copies of the value looked up by default gives it
pub copies : {X : Type 0} (n : ℕ) (x : X) (k : ℕ) → get_or (replicate n x) k x ≡ x
copies zero x k = refl
copies (suc n) x zero = refl
copies (suc n) x (suc k) = copies n x k

-- a test that some element passes, where the changed one passes if it did before
pub any_kept : {X : Type 0} (test : X → Bool) (xs : List X) (k : ℕ) (x y : X) → get_elem? xs k ≡ some x → (test x ≡ true → test y ≡ true)
    → list_any test xs ≡ true → list_any test (set xs k y) ≡ true
any_kept test [] k x y at kept passes = passes
any_kept test (z ∷ xs) zero x y at kept passes =
    elim (or_cases (test z) (list_any test xs) passes) [
      | inl here ↦ or_left (test y) (list_any test xs) (kept (ap test (sym (some-injective z x at)) ∙ here))
      | inr there ↦ or_right (test y) (list_any test xs) there
    ]
any_kept test (z ∷ xs) (suc k) x y at kept passes =
    elim (or_cases (test z) (list_any test xs) passes) [
      | inl here ↦ or_left (test z) (list_any test (set xs k y)) here
      | inr there ↦ or_right (test z) (list_any test (set xs k y)) (any_kept test xs k x y at kept there)
    ]
