-- The order of a volume: its instances that aren't detached, the highest first, each with what its filter registered.
use Rattle.std.specs.Prelude.{◌≡◌, ℕ, ◌+◌, List, [], Bool, true, ◌&&◌, ◌||◌, ◌==◌, nat_lt}
use Rattle.std.specs.Prelude.{Option, Some, None, slice_get, length, AllPairs, position, unwrap_or, option_map, count_by}
use Rattle.fm_types.specs.declared.ids.VolumeId.{VolumeId}
use Rattle.fm_types.specs.declared.ids.InstanceId.{InstanceId}
use Rattle.fm_types.specs.declared.operation.Operation.{Operation}
use Rattle.fm_types.specs.Masks.{has_operation}
use Rattle.fm_stack.specs.declared.filter.Filter.{Filter}
use Rattle.fm_stack.specs.declared.instance.Instance.{Instance}
use Rattle.fm_stack.specs.declared.order.Seat.{Seat}
use Rattle.fm_stack.specs.StackWorld.{StackWorld}
use Rattle.fm_stack.specs.Instances.{is_attached, is_live_on, is_lower, is_lower_option, passes, registration_in}
use Rattle.fm_stack.specs.Stacks.{IsStack}

-- ---- what a search tests ----

abbrev pub is_seat_of : InstanceId → Seat → Bool
is_seat_of i seat = seat.instance.0 == i.0

-- whether the filter of the instance has a callback before or after the operation
abbrev pub is_called_for : Operation → Seat → Bool
is_called_for operation seat = has_operation seat.registration.pre.0 operation || has_operation seat.registration.post.0 operation

-- whether the instance that sits there passes a test
abbrev pub seat_passes : List Instance → (Instance → Bool) → Seat → Bool
seat_passes rows test seat = passes test (slice_get rows seat.instance.0)

abbrev pub is_under : List ℕ → Instance → Bool
is_under altitude row = is_lower row.altitude altitude

-- attached before `born` instances were
abbrev pub is_in_time : ℕ → Instance → Bool
is_in_time born row = is_attached row.phase && nat_lt row.birth born

abbrev pub is_visited : List Instance → ℕ → Operation → Seat → Bool
is_visited rows born operation seat = is_called_for operation seat && seat_passes rows (is_in_time born) seat

abbrev pub instance_of : Option Seat → Option InstanceId
instance_of seat = option_map (λ (s : Seat). s.instance) seat

-- ---- where a search begins ----

-- the place of the highest instance under an altitude
abbrev pub place_under : List Instance → List ℕ → List Seat → ℕ
place_under rows altitude seats = unwrap_or (position (seat_passes rows (is_under altitude)) seats) (length seats)

-- behind an instance that sits nowhere, because it is detached; behind none that isn't there
abbrev pub place_behind_row : List Instance → List Seat → Option Instance → ℕ
place_behind_row rows seats None = length seats
place_behind_row rows seats (Some row) = place_under rows row.altitude seats

abbrev pub place_behind_at : List Instance → List Seat → InstanceId → Option ℕ → ℕ
place_behind_at rows seats last None = place_behind_row rows seats (slice_get rows last.0)
place_behind_at rows seats last (Some place) = place + 1

-- behind the instance visited last; before the first visit, the front
abbrev pub place_behind : List Instance → List Seat → Option InstanceId → ℕ
place_behind rows seats None = 0
place_behind rows seats (Some last) = place_behind_at rows seats last (position (is_seat_of last) seats)

-- ---- what holds of an order ----

-- the seat is one of an instance that is live on the volume, with what its filter registered
pub record IsSeated (filters : List Filter) (rows : List Instance) (v : VolumeId) (seat : Seat) : Type 0 where
  pub row : Instance
  pub there : slice_get rows seat.instance.0 ≡ Some row
  pub live : is_live_on v row ≡ true
  pub registered : registration_in filters row.filter ≡ Some seat.registration

-- instance k has a seat
abbrev pub HasSeat : List Seat → ℕ → Type 0
HasSeat seats k = (p : ℕ) × (seat : Seat) × (slice_get seats p ≡ Some seat) × (seat.instance.0 ≡ k)

-- nobody sits in two places
abbrev pub SitsOnce : List Seat → Type 0
SitsOnce seats = (p q : ℕ) (a b : Seat) → slice_get seats p ≡ Some a → slice_get seats q ≡ Some b → a.instance.0 ≡ b.instance.0 → p ≡ q

abbrev pub altitude_in : List Instance → Seat → Option (List ℕ)
altitude_in rows seat = option_map (λ (row : Instance). row.altitude) (slice_get rows seat.instance.0)

-- a stands higher than b
abbrev pub IsAbove : List Instance → Seat → Seat → Type 0
IsAbove rows a b = is_lower_option (altitude_in rows b) (altitude_in rows a) ≡ true

pub record IsOrder (filters : List Filter) (rows : List Instance) (v : VolumeId) (seats : List Seat) : Type 0 where
  pub seated : (p : ℕ) (seat : Seat) → slice_get seats p ≡ Some seat → IsSeated filters rows v seat
  pub whole : (k : ℕ) (row : Instance) → slice_get rows k ≡ Some row → is_live_on v row ≡ true → HasSeat seats k
  pub falls : AllPairs (IsAbove rows) seats
  pub count : length seats ≡ count_by (is_live_on v) rows

-- the order of a volume; of one that isn't mounted, nobody
abbrev pub seats_at : List (List Seat) → ℕ → List Seat
seats_at orders v = unwrap_or (slice_get orders v) []

-- what is kept: a sound stack, and beside each volume its order
pub record IsKept (s : StackWorld) (orders : List (List Seat)) : Type 0 where
  pub stack : IsStack s
  pub each : length orders ≡ length s.volumes
  pub sorted : (v : ℕ) (seats : List Seat) → slice_get orders v ≡ Some seats → IsOrder s.filters s.instances (record { 0 = v }) seats
