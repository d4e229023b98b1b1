-- One slot of a sweep, the tests that sweeps are made with, and the chain of an object's slots.
use Rattle.std.specs.Prelude.{ℕ, Bool, false, cond, List, slice_get, Option, Some, None, option_and_then}
use Rattle.fm_types.specs.declared.ids.CtxId.{CtxId}
use Rattle.fm_ctx.specs.declared.seat.Links.{Links}
use Rattle.fm_ctx.specs.declared.seat.Seat.{Seat}
use Rattle.fm_ctx.specs.declared.seat.Links.TheVariants.{To, Of}
use Rattle.fm_ctx.specs.Table.{Context, Slot, ContextTable}
use Rattle.fm_ctx.specs.Links.{unlinked, id_at}
use Rattle.fm_ctx.specs.Objects.{same_object, same_owner}
use Rattle.fm_ctx.specs.Seats.{seat_by, is_on}
use Rattle.fm_ctx.specs.Settling.{is_linked_to, is_linked_of}

abbrev pub link_test : Links → Context → Bool
link_test (To object) = is_linked_to object
link_test (Of owner) = is_linked_of owner

-- whether there is a context, and it passes a test
abbrev pub passes : (Context → Bool) → Option Context → Bool
passes test None = false
passes test (Some x) = test x

-- the context of one slot loses its link, where it passes
abbrev pub context_of_slot : List Slot → ℕ → Option Context
context_of_slot slots k = option_and_then (λ (s : Slot). s.context) (slice_get slots k)

abbrev pub swept_at : (CtxId → ℕ) → ContextTable → (Context → Bool) → ℕ → ContextTable
swept_at carried t test k = cond (passes test (context_of_slot t.slots k)) (unlinked carried t (id_at t.slots k)) t

-- ---- seats of slots

-- the seat of a context, where it is linked
abbrev pub seat_of_context : Option Context → Option Seat
seat_of_context None = None
seat_of_context (Some x) = seat_by x.owner x.link

-- whether a seat, where there is one, is on that object, or of that owner
abbrev pub seat_test : Links → Seat → Bool
seat_test (To object) seat = same_object object seat.object
seat_test (Of owner) seat = same_owner owner seat.owner

abbrev pub seat_passes : Links → Option Seat → Bool
seat_passes links None = false
seat_passes links (Some seat) = seat_test links seat

-- whether the context of a slot is linked to an object of a chain
abbrev pub links_on : List Slot → ℕ → ℕ → Bool
links_on slots chain k = is_on chain (seat_of_context (context_of_slot slots k))
