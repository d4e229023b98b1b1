-- Seats: where linked contexts stand, and the chains in which they are found.
use Rattle.std.specs.Prelude.{◌≡◌, ℕ, zero, suc, ◌%◌, ◌<◌, ◌≤◌, ◌==◌, ◌&&◌, Bool, true, false, cond, List, length, slice_index_or, slice_set, Option, Some, None, IfSome, option_map}
use Rattle.fm_ctx.specs.declared.object.Object.{Object}
use Rattle.fm_ctx.specs.declared.object.Object.TheVariants.{Volume, Instance, Stream, File, Handle}
use Rattle.fm_ctx.specs.declared.owner.Owner.{Owner}
use Rattle.fm_ctx.specs.declared.seat.Seat.{Seat}
use Rattle.fm_ctx.specs.Objects.{same_object, same_owner}

abbrev pub object_number : Object → ℕ
object_number (Volume v) = v.0
object_number (Instance i) = i.0
object_number (Stream s) = s.0
object_number (File s) = s.0
object_number (Handle h) = h.0

abbrev pub same_seat : Seat → Seat → Bool
same_seat a b = same_object a.object b.object && same_owner a.owner b.owner

-- whether a seat, where there is one, is that seat
abbrev pub is_seat : Seat → Option Seat → Bool
is_seat seat None = false
is_seat seat (Some other) = same_seat seat other

-- the seat of a context by its owner and its link
abbrev pub seat_by : Owner → Option Object → Option Seat
seat_by owner link = option_map (λ (object : Object). record { owner = owner; object = object }) link

-- ---- chains

-- seats of one object stand on one chain
abbrev pub chain_to : Object → ℕ
chain_to object = object_number object % 4096

abbrev pub chain_of : Seat → ℕ
chain_of seat = chain_to seat.object

abbrev pub is_on : ℕ → Option Seat → Bool
is_on chain None = false
is_on chain (Some seat) = chain_of seat == chain

-- whether the seat of a slot is on a chain
abbrev pub stands : List (Option Seat) → ℕ → ℕ → Bool
stands seats chain slot = is_on chain (slice_index_or seats slot None)

-- the last number below another one that passes a test
unfoldable pub last_below : (ℕ → Bool) → ℕ → Option ℕ
last_below test zero = None
last_below test (suc n) = cond (test n) (Some n) (last_below test n)

-- each chain leads from the highest of its slots to the next lower one
pub record IsChained (firsts nexts : List (Option ℕ)) (seats : List (Option Seat)) : Type 0 where
  pub chains : length firsts ≡ 4096
  pub matched : length nexts ≡ length seats
  pub first : (chain : ℕ) → chain < 4096 → slice_index_or firsts chain None ≡ last_below (stands seats chain) (length seats)
  pub next : (chain slot : ℕ) → stands seats chain slot ≡ true → slice_index_or nexts slot None ≡ last_below (stands seats chain) slot

-- and there is room for all slots
pub record IsSeating (firsts nexts : List (Option ℕ)) (seats : List (Option Seat)) (room_of_nexts room_of_seats : ℕ) : Type 0 where
  pub chained : IsChained firsts nexts seats
  pub nexts_fit : 65536 ≤ room_of_nexts
  pub seats_fit : 65536 ≤ room_of_seats

-- where the part of a chain ends that a slot leads to
abbrev pub end_of : Option ℕ → ℕ → ℕ
end_of None all = all
end_of (Some slot) all = slot

-- the lowest slot of a chain above another slot, if the chain has one
pub record IsAbove (test : ℕ → Bool) (slot all : ℕ) (above : Option ℕ) : Type 0 where
  pub there : IfSome above (λ (a : ℕ). (slot < a) × (a < all) × (test a ≡ true))
  pub between : (k : ℕ) → slot < k → k < end_of above all → test k ≡ false

-- a slot leads to another one, or a chain does
abbrev pub firsts_led : List (Option ℕ) → ℕ → Option ℕ → Option ℕ → List (Option ℕ)
firsts_led firsts chain None slot = slice_set firsts chain slot
firsts_led firsts chain (Some a) slot = firsts

abbrev pub nexts_led : List (Option ℕ) → Option ℕ → Option ℕ → List (Option ℕ)
nexts_led nexts None slot = nexts
nexts_led nexts (Some a) slot = slice_set nexts a slot
