-- What readers count.
use Rattle.std.specs.Prelude.{ℕ, ◌+◌, ◌==◌, ◌&&◌, Bool, true, false, cond, nat_lt, nat_le, List, sum_by, count_by, slice_get, Option, Some, None, is_none}
use Rattle.fm_types.specs.declared.context_kind.ContextKind.{ContextKind}
use Rattle.fm_types.specs.declared.context_kind.ContextKind.TheVariants as kind
use Rattle.fm_types.specs.declared.ids.CtxId.{CtxId}
use Rattle.fm_types.specs.declared.ids.VolumeId.{VolumeId}
use Rattle.fm_ctx.specs.declared.owner.Owner.{Owner}
use Rattle.fm_ctx.specs.declared.count.Count.{Count}
use Rattle.fm_ctx.specs.declared.count.Count.TheVariants.{Live, Due, Cleaning, Cleaned, Absent}
use Rattle.fm_ctx.specs.Bags.{one, holds}
use Rattle.fm_ctx.specs.Objects.{same_owner}
use Rattle.fm_ctx.specs.Table.{Context, Slot, ContextTable, context_at, count_in}

-- whether an id was given: its slot has had that generation
abbrev pub was_given_by : CtxId → Option Slot → Bool
was_given_by c None = false
was_given_by c (Some s) = nat_le c.generation s.generation

abbrev pub was_given : List Slot → CtxId → Bool
was_given slots c = was_given_by c (slice_get slots c.slot)

abbrev pub count_reply_of : ℕ → Bool → Bool → Option Context → Count
count_reply_of count is_due given None = cond given Cleaned Absent
count_reply_of count is_due given (Some x) = cond (nat_lt 0 count) (Live count) (cond is_due Due Cleaning)

-- how far a context's life has come
abbrev pub count_reply : (CtxId → ℕ) → ContextTable → CtxId → Count
count_reply carried t c = count_reply_of (count_in carried t c) (holds t.due c) (was_given t.slots c) (context_at t.slots c)

-- each generation up to the last one was a context
abbrev pub born : List Slot → ℕ
born slots = sum_by (λ (s : Slot). s.generation + 1) slots

-- all but those that the slots have now
abbrev pub cleaned_count : List Slot → ℕ
cleaned_count slots = sum_by (λ (s : Slot). s.generation + one (is_none s.context)) slots

abbrev pub is_open : Owner → Option Context → Bool
is_open owner None = false
is_open owner (Some x) = same_owner owner x.owner

-- how many contexts of an owner aren't cleaned
abbrev pub open_of : List Slot → Owner → ℕ
open_of slots owner = count_by (λ (s : Slot). is_open owner s.context) slots

abbrev pub is_volume : ContextKind → Bool
is_volume kind.Volume = true
is_volume _ = false

-- a volume context that was allocated on the volume
abbrev pub is_open_on : VolumeId → Option Context → Bool
is_open_on v None = false
is_open_on v (Some x) = is_volume x.kind && (x.volume.0 == v.0)

-- how many volume contexts that were allocated on a volume aren't cleaned
abbrev pub open_on : List Slot → VolumeId → ℕ
open_on slots v = count_by (λ (s : Slot). is_open_on v s.context) slots
