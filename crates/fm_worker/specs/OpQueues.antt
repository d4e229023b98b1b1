-- Operations that wait, each once.
use Rattle.std.specs.Prelude.{◌≡◌, ◌≤◌, ◌==◌, ◌||◌, ◌++◌, ◌∷◌, [], ℕ, Bool, false, ⊤, List, cond, length, nat_le}
use Rattle.std.specs.List.{list_any}
use Rattle.fm_types.specs.declared.ids.OpId.{OpId}

abbrev pub is_number : OpId → OpId → Bool
is_number o other = o.0 == other.0

-- an operation comes after the others, unless it is there or 256 are
abbrev pub put_in : OpId → List OpId → List OpId
put_in o numbers = cond (list_any (is_number o) numbers || nat_le 256 (length numbers)) numbers (numbers ++ o ∷ [])

-- each number stands there once
abbrev pub IsOnce : List OpId → Type 0
IsOnce [] = ⊤
IsOnce (o ∷ numbers) = (list_any (is_number o) numbers ≡ false) × IsOnce numbers

-- the numbers of a queue of operations, and for how many it has memory
pub record IsOpQueue (numbers : List OpId) (places : ℕ) : Type 0 where
  pub once : IsOnce numbers
  pub few : length numbers ≤ 256
  pub memory : 256 ≤ places
