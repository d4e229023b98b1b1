-- New contexts: which slot one gets, and when there is no room.
use Rattle.std.specs.Prelude.{◌≡◌, ◌⊎◌, ℕ, ◌+◌, ◌-◌, ◌^◌, ◌<◌, ◌==◌, ◌&&◌, ◌||◌, Bool, true, not, cond, nat_lt, nat_le, List, [], ◌∷◌, ◌++◌, length, slice_get, slice_set, Option, Some, None, is_none}
use Rattle.std.specs.List.{list_any}
use Rattle.fm_types.specs.declared.ids.CtxId.{CtxId}
use Rattle.fm_types.specs.declared.ids.VolumeId.{VolumeId}
use Rattle.fm_types.specs.declared.context_kind.ContextKind.{ContextKind}
use Rattle.fm_types.specs.declared.status.Status.{Status}
use Rattle.fm_types.specs.declared.status.Status.TheVariants as status
use Rattle.fm_types.specs.Refusals.{first_of}
use Rattle.fm_ctx.specs.declared.owner.Owner.{Owner}
use Rattle.fm_ctx.specs.Bags.{hand_of, is_hand_full}
use Rattle.fm_ctx.specs.Table.{Context, Slot, ContextTable}
use Rattle.fm_ctx.specs.Kept.{ContextsKept, carried_none}

-- the last generation that a slot is given; then it isn't used again
unfoldable pub last_generation : ℕ
last_generation = 2 ^ 32 - 1

-- a slot that may be used again: its context is cleaned, and a next generation is left to it
abbrev pub is_free : Slot → Bool
is_free s = is_none s.context && nat_lt s.generation last_generation

abbrev pub has_free_slot : List Slot → Bool
has_free_slot slots = list_any is_free slots

-- 65,536 slots, and none of them free
unfoldable pub is_out_of_slots : List Slot → Bool
is_out_of_slots slots = nat_le 65536 (length slots) && not (has_free_slot slots)

-- an id that was never given: of a new slot, where there are fewer than 65,536, or the next generation of a free one
abbrev pub IsNew : List Slot → CtxId → Type 0
IsNew slots c =
    ((c.slot ≡ length slots) × (c.generation ≡ 0) × (length slots < 65536))
    ⊎ ((s : Slot) × (slice_get slots c.slot ≡ Some s) × (is_free s ≡ true) × (c.generation ≡ s.generation + 1))

abbrev pub new_slot : CtxId → Context → Slot
new_slot c x = record { generation = c.generation; context = Some x }

-- the slots with a context put into the slot of its id
abbrev pub placed : List Slot → CtxId → Context → List Slot
placed slots c x = cond (c.slot == length slots) (slots ++ new_slot c x ∷ []) (slice_set slots c.slot (new_slot c x))

abbrev pub new_context : ContextKind → Owner → VolumeId → List ℕ → Context
new_context kind owner volume body = record { kind = kind; owner = owner; volume = volume; body = body; link = None }

-- the new context, with one reference, in the hand
abbrev pub allocated : ContextTable → ℕ → CtxId → Context → ContextTable
allocated t w c x =
    record t {
      slots = placed t.slots c x;
      hands = slice_set t.hands w (hand_of t.hands w ++ c ∷ []);
    }

abbrev pub kept_allocated : ContextsKept → ℕ → CtxId → Context → ContextsKept
kept_allocated kept w c x = record { table = allocated kept.table w c x; carried = carried_none kept.carried c }

-- the answer is the id of the context that a worker got
abbrev pub Allocates : ContextsKept → ContextsKept → ℕ → ContextKind → Owner → VolumeId → List ℕ → CtxId → Type 0
Allocates old new w kind owner volume body c = IsNew old.table.slots c × (new ≡ kept_allocated old w c (new_context kind owner volume body))

-- a body of 4,096 bytes at most, and a slot for the context
abbrev pub allocate_refusal : ContextTable → ℕ → List ℕ → Option Status
allocate_refusal t w body =
    first_of ((nat_lt 4096 (length body) || is_out_of_slots t.slots, status.TooMany) ∷ (is_hand_full t.hands w, status.HandFull) ∷ [])

abbrev pub allocate_refused : ContextsKept → ℕ → List ℕ → Option Status
allocate_refused kept w body = allocate_refusal kept.table w body
