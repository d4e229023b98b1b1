-- The contexts of a script by their numbers, which count their allocations.
use Rattle.std.specs.Prelude.{◌≡◌, ◌≤◌, ℕ, ◌==◌, ◌&&◌, ◌+◌, ◌-◌, Bool, List, Option, Some, length, nat_lt, option_map, position, reverse, slice_get}
use Rattle.fm_types.specs.declared.ids.CtxId.{CtxId}

abbrev pub is_context : CtxId → CtxId → Bool
is_context c own = (own.slot == c.slot) && (own.generation == c.generation)

-- the number of a context in the order of allocation: of the last of that id, and no id is given twice
abbrev pub number_in : CtxId → List CtxId → Option ℕ
number_in c contexts = option_map (λ newer. length contexts - (newer + 1)) (position (is_context c) (reverse contexts))

-- the contexts, and whether there is room for one more
pub record ContextsNoted : Type 0 where
  pub ids : List CtxId
  pub has_room : Bool

abbrev pub noted_in : List CtxId → ℕ → List ℕ → ℕ → ContextsNoted
noted_in ids most newest all = record { ids = ids; has_room = nat_lt (length ids) most && nat_lt (length newest) all }

-- no context of a slot has a higher number than what is kept of that slot
abbrev pub AreNewest : List CtxId → List ℕ → Type 0
AreNewest ids newest = (n : ℕ) (c : CtxId) (m : ℕ) → slice_get ids n ≡ Some c → slice_get newest c.slot ≡ Some m → n ≤ m
