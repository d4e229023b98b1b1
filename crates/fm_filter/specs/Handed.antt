-- The filters that a manager was handed, each under its name, and which of them a number stands for.
use Rattle.std.specs.Prelude.{◌≡◌, List, MatchOption, Option, None, Some, option_and_then, option_map, position, slice_get, ℕ}
use Rattle.std.specs.Borrow.{Bor}
use Rattle.fm_stack.specs.Instances.{same_name}
use Rattle.fm_filter.specs.declared.filters.Filters.{Filters}

-- the filter that was handed in at a place
abbrev pub handed_in : {F : Type 0} → Filters F → ℕ → Option F
handed_in filters place = option_map (λ row. row.1) (slice_get filters.all.items place)

-- the place that a number stands for
abbrev pub place_of : {F : Type 0} → Filters F → ℕ → Option ℕ
place_of filters n = option_and_then (λ place. place) (slice_get filters.loaded n)

-- the filter that a number stands for
abbrev pub numbered : {F : Type 0} → Filters F → ℕ → Option F
numbered filters n = option_and_then (handed_in filters) (place_of filters n)

-- the place of the filter of that name
abbrev pub place_called : {F : Type 0} → List ℕ → List (List ℕ × F) → Option ℕ
place_called {F} name all = position (λ (row : List ℕ × F). same_name row.0 name) all

-- that filter was found, or there is none
abbrev pub IsFoundAs : {F : Type 0} → Option F → Option (Bor F) → Type 0
IsFoundAs wanted found = MatchOption found (wanted ≡ None) (λ filter. wanted ≡ Some filter.now)
