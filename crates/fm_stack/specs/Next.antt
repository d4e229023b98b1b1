-- The next instance that an operation visits: the highest of those that it has still to visit.
use Rattle.std.specs.Prelude.{◌≡◌, ℕ, List, Bool, true, false, ◌&&◌, ◌||◌, ◌==◌, nat_lt, Option, Some, None, slice_get}
use Rattle.fm_types.specs.declared.ids.VolumeId.{VolumeId}
use Rattle.fm_types.specs.declared.ids.FilterId.{FilterId}
use Rattle.fm_types.specs.declared.ids.InstanceId.{InstanceId}
use Rattle.fm_types.specs.declared.operation.Operation.{Operation}
use Rattle.fm_types.specs.Masks.{has_operation}
use Rattle.fm_stack.specs.declared.filter.Filter.{Filter}
use Rattle.fm_stack.specs.declared.instance.Instance.{Instance}
use Rattle.fm_stack.specs.StackWorld.{StackWorld}
use Rattle.fm_stack.specs.Instances.{is_attached, is_lower, is_lower_option, altitude_at}

-- whether a filter has a callback for the operation: before it, and after it
abbrev pub has_pre_in : Option Filter → Operation → Bool
has_pre_in None operation = false
has_pre_in (Some filter) operation = has_operation filter.registration.pre.0 operation

abbrev pub has_post_in : Option Filter → Operation → Bool
has_post_in None operation = false
has_post_in (Some filter) operation = has_operation filter.registration.post.0 operation

abbrev pub is_registered : List Filter → FilterId → Operation → Bool
is_registered filters f operation = has_pre_in (slice_get filters f.0) operation || has_post_in (slice_get filters f.0) operation

-- an instance that an operation visits some time, if the operation is on volume v and began when `born` instances had become attached:
-- attached to that volume before the operation began, and registered for it
abbrev pub is_to_visit : StackWorld → VolumeId → ℕ → Operation → Instance → Bool
is_to_visit s v born operation row =
    is_attached row.phase && ((row.volume.0 == v.0) && (nat_lt row.birth born && is_registered s.filters row.filter operation))

-- below the instance visited last; before the first visit, each is
abbrev pub is_below_cursor : StackWorld → Option ℕ → Instance → Bool
is_below_cursor s None row = true
is_below_cursor s (Some last) row = is_lower_option (Some row.altitude) (altitude_at s last)

abbrev pub is_candidate : StackWorld → VolumeId → Option ℕ → ℕ → Operation → Instance → Bool
is_candidate s v cursor born operation row = is_to_visit s v born operation row && is_below_cursor s cursor row

-- row i passes the test, and none that passes it is higher
pub record IsHighest (test : Instance → Bool) (rows : List Instance) (i : ℕ) : Type 0 where
  pub row : Instance
  pub there : slice_get rows i ≡ Some row
  pub passes : test row ≡ true
  pub highest : (j : ℕ) (other : Instance) → slice_get rows j ≡ Some other → test other ≡ true → is_lower row.altitude other.altitude ≡ false

-- no row passes the test
abbrev pub NonePasses : (Instance → Bool) → List Instance → Type 0
NonePasses test rows = (j : ℕ) (other : Instance) → slice_get rows j ≡ Some other → test other ≡ false

abbrev pub IsHighestOrNone : (Instance → Bool) → List Instance → Option InstanceId → Type 0
IsHighestOrNone test rows None = NonePasses test rows
IsHighestOrNone test rows (Some i) = IsHighest test rows i.0

-- the next instance of an operation on volume v, begun at `born`, that visited the cursor last
abbrev pub IsNextInstance : StackWorld → VolumeId → Option ℕ → ℕ → Operation → Option InstanceId → Type 0
IsNextInstance s v cursor born operation next = IsHighestOrNone (is_candidate s v cursor born operation) s.instances next
