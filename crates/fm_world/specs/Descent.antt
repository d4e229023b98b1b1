-- The descent of an operation: the instances that it visited so far, from the highest down, with none passed over.
use Rattle.std.specs.Prelude.{◌≡◌, ℕ, ◌+◌, ◌≤◌, ◌==◌, Bool, true, false, List, ◌∷◌, reverse, Option, Some, None, option_map, length, slice_get, AllPairs, count_by}
use Rattle.std.specs.List.{list_any}
use Rattle.fm_world.specs.Words.{InstanceId, VolumeId, Operation, Instance, StackWorld, is_lower_at, is_to_visit, is_below_cursor, is_candidate}

-- the instance that was visited last
abbrev pub last_of : List ℕ → Option ℕ
last_of visited = slice_get (reverse visited) 0

abbrev pub is_among : List ℕ → ℕ → Bool
is_among visited i = list_any (λ j. j == i) visited

-- the instances on an operation's way so far: the one below which it began, if it didn't begin at the top, and those that it visited
abbrev pub trail : Option InstanceId → List ℕ → List ℕ
trail None visited = visited
trail (Some i) visited = i.0 ∷ visited

-- the one below which the next visit is looked for
abbrev pub cursor_of : Option InstanceId → List ℕ → Option ℕ
cursor_of below visited = last_of (trail below visited)

-- lower than the instance below which an operation began; each is, where it began at the top
abbrev pub begins_below : StackWorld → Option InstanceId → Instance → Bool
begins_below s below row = is_below_cursor s (option_map (λ i. i.0) below) row

-- an operation on volume v, begun at `born` and below that instance, if one is named, that visited these instances; `reached` says that the base was called
pub record IsDescent (s : StackWorld) (v : VolumeId) (below : Option InstanceId) (born : ℕ) (operation : Operation) (visited : List ℕ) (reached : Bool) : Type 0 where
  -- the altitudes fall strictly, from the instance below which it began
  pub falls : AllPairs (λ i j. is_lower_at s j i ≡ true) (trail below visited)
  -- an instance that is to be visited and wasn't is still below the last visit, and the base wasn't reached
  pub passes_none : (i : ℕ) (row : Instance) → slice_get s.instances i ≡ Some row → is_to_visit s v born operation row ≡ true
      → begins_below s below row ≡ true → is_among visited i ≡ false → (is_below_cursor s (cursor_of below visited) row ≡ true) × (reached ≡ false)

-- what the next visits need besides: the operation began in the past, and there is room for all visits that may come
pub record HasRoom (s : StackWorld) (v : VolumeId) (below : Option InstanceId) (born : ℕ) (operation : Operation) (visited : List ℕ) : Type 0 where
  pub past : born ≤ s.births
  pub room : length visited + count_by (is_candidate s v (cursor_of below visited) born operation) s.instances ≤ 32
