-- What an instance is to its volume: whether it is still there, whether two of them clash, and which is lower.
use Rattle.std.specs.Prelude.{ℕ, List, Bool, true, false, not, ◌&&◌, ◌||◌, ◌==◌, Option, Some, None, slice_get, option_map}
use Rattle.std.specs.Ordering.{is_lt, is_eq}
use Rattle.std.specs.Cmp.Lexicographic.{pointwise}
use Rattle.fm_types.specs.declared.ids.VolumeId.{VolumeId}
use Rattle.fm_types.specs.declared.ids.FilterId.{FilterId}
use Rattle.fm_types.specs.declared.ids.InstanceId.{InstanceId}
use Rattle.fm_types.specs.declared.registration.Registration.{Registration}
use Rattle.fm_stack.specs.declared.filter.Filter.{Filter}
use Rattle.fm_altitude.specs.Order.{altitude_cmp}
use Rattle.fm_stack.specs.declared.instance.Instance.{Instance}
use Rattle.fm_stack.specs.declared.instance.Phase.{Phase}
use Rattle.fm_stack.specs.declared.instance.Phase.TheVariants as phase
use Rattle.fm_stack.specs.StackWorld.{StackWorld}

abbrev pub is_setup : Phase → Bool
is_setup phase.Setup = true
is_setup _ = false

abbrev pub is_attached : Phase → Bool
is_attached phase.Attached = true
is_attached _ = false

abbrev pub is_stopping : Phase → Bool
is_stopping phase.Stopping = true
is_stopping _ = false

abbrev pub is_completing : Phase → Bool
is_completing phase.Completing = true
is_completing _ = false

abbrev pub is_emptying : Phase → Bool
is_emptying phase.Emptying = true
is_emptying _ = false

abbrev pub is_detached : Phase → Bool
is_detached phase.Detached = true
is_detached _ = false

-- one that isn't
abbrev pub is_left : Instance → Bool
is_left row = not (is_detached row.phase)

-- whether no instance is there, or one that is detached
abbrev pub is_gone_at : Option Instance → Bool
is_gone_at None = true
is_gone_at (Some row) = is_detached row.phase

-- whether an instance is there and passes a test
abbrev pub passes : (Instance → Bool) → Option Instance → Bool
passes test None = false
passes test (Some row) = test row

-- a name as its text
abbrev pub same_name : List ℕ → List ℕ → Bool
same_name a b = pointwise ◌==◌ a b

-- an altitude as its text, compared by its decimal value
abbrev pub same_altitude : List ℕ → List ℕ → Bool
same_altitude a b = is_eq (altitude_cmp a b)

abbrev pub is_lower : List ℕ → List ℕ → Bool
is_lower a b = is_lt (altitude_cmp a b)

-- an instance that takes up its name and its altitude on volume v
abbrev pub is_live_on : VolumeId → Instance → Bool
is_live_on v row = (row.volume.0 == v.0) && not (is_detached row.phase)

-- two instances that may not be there together
abbrev pub clashes : Instance → Instance → Bool
clashes a b =
    is_live_on a.volume a && (is_live_on a.volume b && (same_name a.name b.name || same_altitude a.altitude b.altitude))

-- the altitude of instance i
abbrev pub altitude_at : StackWorld → ℕ → Option (List ℕ)
altitude_at s i = option_map (λ (row : Instance). row.altitude) (slice_get s.instances i)

-- the first altitude is there and lower than the second
abbrev pub is_lower_option : Option (List ℕ) → Option (List ℕ) → Bool
is_lower_option (Some a) (Some b) = is_lower a b
is_lower_option _ _ = false

-- instance i is lower than instance j
abbrev pub is_lower_at : StackWorld → ℕ → ℕ → Bool
is_lower_at s i j = is_lower_option (altitude_at s i) (altitude_at s j)

-- what the filter with that id registered, and what the filter of an instance did
abbrev pub registration_in : List Filter → FilterId → Option Registration
registration_in filters f = option_map (λ (filter : Filter). filter.registration) (slice_get filters f.0)

abbrev pub registration_in_row : List Filter → Option Instance → Option Registration
registration_in_row filters None = None
registration_in_row filters (Some row) = registration_in filters row.filter

abbrev pub registration_of : StackWorld → InstanceId → Option Registration
registration_of s i = registration_in_row s.filters (slice_get s.instances i.0)
