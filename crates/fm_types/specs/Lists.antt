-- Changes of one element of a list.
use Rattle.std.specs.Prelude.{ℕ, zero, suc, Bool, cond, List, [], ◌∷◌}

-- the list with the element at a place changed, where one stands there
abbrev pub updated : {X : Type 0} → (X → X) → List X → ℕ → List X
updated change [] at = []
updated change (x ∷ xs) zero = change x ∷ xs
updated change (x ∷ xs) (suc at) = x ∷ updated change xs at

-- the first that passes a test, changed; the others stay
abbrev pub change_first : {X : Type 0} → (X → Bool) → (X → X) → List X → List X
change_first test f [] = []
change_first test f (x ∷ xs) = cond (test x) (f x ∷ xs) (x ∷ change_first test f xs)

-- all but the first that passes a test
abbrev pub without_first : {X : Type 0} → (X → Bool) → List X → List X
without_first test [] = []
without_first test (x ∷ xs) = cond (test x) xs (x ∷ without_first test xs)
