-- A loop that changes each element of a list in its place.
use Rattle.std.proofs.Common.{◌≡◌, ◌<◌, ◌+◌, ◌++◌, ℕ, List, [], ◌∷◌, length, take, drop, set, get_or, arith, zero, suc}
use Rattle.std.proofs.lemmas.Grind.{common_steps}
use Rattle.std.specs.Prelude.{map}
use native.Mathlib.Numerals.{unary_clauses}

-- with the first ones changed, changing the next one leaves one more of them changed
pub changed_next : (f : ℕ → ℕ) (xs : List ℕ) (i : ℕ) → i < length xs
    → set (map f (take i xs) ++ drop i xs) i (f (get_or (map f (take i xs) ++ drop i xs) i 0)) ≡ map f (take (i + 1) xs) ++ drop (i + 1) xs
changed_next f [] i within = grind (arith, common_steps)
changed_next f (x ∷ xs) zero within = grind (arith, common_steps)
changed_next f (x ∷ xs) (suc i) within = let e : set (map f (take i xs) ++ drop i xs) i
    (f (get_or (map f (take i xs) ++ drop i xs) i 0)) ≡ map f (take (i + 1) xs) ++ drop (i + 1) xs =
    changed_next f xs i (omega arith) in simp (unary_clauses, e)
