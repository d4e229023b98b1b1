-- Sums over the passes of a queue: what a change of one pass does to them.
use Rattle.std.proofs.Common.{◌≡◌, ◌+◌, ◌<◌, ℕ, zero, suc, List, [], ◌∷◌, ◌++◌, get_or, set, length, sum_by, flat_map, refl, ap, sym, ◌∙◌, arith}
use Rattle.std.proofs.lemmas.List.Sums.{sum_by-append, sum_by-cons, sum_by_push, sum_by-set}
use mathlib.Core.Option.{some, some-injective, some-ne-none}
use lib.ListN.{get_elem?}

-- a look-up that finds an element, by its place
pub found : {X : Type 0} (xs : List X) (k : ℕ) (x : X) → get_elem? xs k ≡ some x → (k < length xs) × ((d : X) → get_or xs k d ≡ x)
found [] k x at = absurd (some-ne-none x (sym at))
found (y ∷ xs) zero x at = (omega arith, λ d. some-injective y x at)
found (y ∷ xs) (suc k) x at = let rest = found xs k x at in (omega (arith, rest.0), rest.1)

-- a sum after one element was changed
pub sum_changed : {X : Type 0} (f : X → ℕ) (xs : List X) (k : ℕ) (x y : X) → get_elem? xs k ≡ some x → sum_by f (set xs k y) + f x ≡ sum_by f xs + f y
sum_changed f xs k x y at = let here = found xs k x at in ap (λ z. sum_by f (set xs k y) + f z) (sym (here.1 x)) ∙ sum_by-set f xs k y x here.0

-- the sum over lists that were put together is the sum of their sums
pub sum_by-flat_map : {X Y : Type 0} (f : Y → ℕ) (parts : X → List Y) (xs : List X)
    → sum_by f (flat_map parts xs) ≡ sum_by (λ x. sum_by f (parts x)) xs
sum_by-flat_map f parts [] = refl
sum_by-flat_map f parts (x ∷ xs) =
    sum_by-append f (parts x) (flat_map parts xs)
    ∙ ap (λ n. sum_by f (parts x) + n) (sum_by-flat_map f parts xs)
    ∙ sym (sum_by-cons (λ y. sum_by f (parts y)) x xs)

-- the same sum after one of the lists was changed
pub flat_changed : {X Y : Type 0} (f : Y → ℕ) (parts : X → List Y) (xs : List X) (k : ℕ) (x y : X) → get_elem? xs k ≡ some x
    → sum_by f (flat_map parts (set xs k y)) + sum_by f (parts x) ≡ sum_by f (flat_map parts xs) + sum_by f (parts y)
flat_changed f parts xs k x y at =
    ap (λ n. n + sum_by f (parts x)) (sum_by-flat_map f parts (set xs k y))
    ∙ sum_changed (λ z. sum_by f (parts z)) xs k x y at
    ∙ ap (λ n. n + sum_by f (parts y)) (sym (sum_by-flat_map f parts xs))

-- and after one more list
pub flat_more : {X Y : Type 0} (f : Y → ℕ) (parts : X → List Y) (xs : List X) (x : X)
    → sum_by f (flat_map parts (xs ++ x ∷ [])) ≡ sum_by f (flat_map parts xs) + sum_by f (parts x)
flat_more f parts xs x =
    sum_by-flat_map f parts (xs ++ x ∷ [])
    ∙ sum_by_push (λ y. sum_by f (parts y)) xs x
    ∙ ap (λ n. n + sum_by f (parts x)) (sym (sum_by-flat_map f parts xs))
