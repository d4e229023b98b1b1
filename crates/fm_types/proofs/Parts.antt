-- A search through the parts of a text tells whether all of them pass.
use Rattle.std.proofs.Common.{◌↔◌, ℕ, ◌<◌, Bool, true, false, IsTrue, List, [], ◌∷◌, length, All, refl, arith}
use Rattle.std.specs.Bool.{MatchBool}
use Rattle.std.specs.List.{AllWithin, HoldsAt}
use Rattle.std.proofs.lemmas.List.Elements.{All-from_all_within}

at_one : {X : Type 0} (P : X → Type 0) (xs : List X) (k : ℕ) → k < length xs → HoldsAt (λ x. P x → ⊥) xs k → All P xs → ⊥
at_one P [] k within lacks all = omega (arith, within)
at_one P (x ∷ xs) k within lacks all = lacks x (all k x within)

-- a test that finds an element without P, or none, tells whether all have P
pub all_from_search : {X : Type 0} (P : X → Type 0) (found : Bool) (xs : List X)
    → MatchBool found (AllWithin P xs 0 (length xs)) ((k : ℕ) × (k < length xs) × HoldsAt (λ x. P x → ⊥) xs k)
    → IsTrue found ↔ All P xs
all_from_search P true xs all = (λ _. All-from_all_within P xs all, λ _. refl)
all_from_search P false xs (k, within, lacks) = (λ h. cc, λ all. absurd (at_one P xs k within lacks all))
