-- References: one more in a worker's hand, one fewer, and the hand at a callback's end.
use Rattle.std.specs.Prelude.{ℕ, ◌==◌, not, cond, List, [], ◌∷◌, ◌++◌, slice_set, Option}
use Rattle.fm_types.specs.declared.ids.CtxId.{CtxId}
use Rattle.fm_types.specs.declared.status.Status.{Status}
use Rattle.fm_types.specs.declared.status.Status.TheVariants as status
use Rattle.fm_types.specs.Refusals.{first_of}
use Rattle.fm_ctx.specs.Bags.{hand_of, holds, without, is_hand_full}
use Rattle.fm_ctx.specs.Table.{ContextTable, count_in}
use Rattle.fm_ctx.specs.Kept.{ContextsKept, carried_of, carried_more, carried_fewer}

abbrev pub with_hand : ContextTable → ℕ → List CtxId → ContextTable
with_hand t w hand = record t { hands = slice_set t.hands w hand }

-- one more reference in the hand; a completion's context comes back so too
abbrev pub grabbed : ContextTable → ℕ → CtxId → ContextTable
grabbed t w c = with_hand t w (hand_of t.hands w ++ c ∷ [])

-- a reference leaves the hand and goes elsewhere
abbrev pub handed_on : ContextTable → ℕ → CtxId → ContextTable
handed_on t w c = with_hand t w (without c (hand_of t.hands w))

-- the due list where one reference to a context goes: with the last one the context is due
abbrev pub due_after : (CtxId → ℕ) → ContextTable → CtxId → List CtxId
due_after carried t c = cond (count_in carried t c == 1) (t.due ++ c ∷ []) t.due

-- a reference leaves the hand and is gone
abbrev pub released : (CtxId → ℕ) → ContextTable → ℕ → CtxId → ContextTable
released carried t w c =
    record t {
      hands = slice_set t.hands w (without c (hand_of t.hands w));
      due = due_after carried t c;
    }

abbrev pub reference_refusal : ContextTable → ℕ → CtxId → Option Status
reference_refusal t w c =
    first_of ((not (holds (hand_of t.hands w) c), status.NotHeld) ∷ (is_hand_full t.hands w, status.HandFull) ∷ [])

abbrev pub release_refusal : ContextTable → ℕ → CtxId → Option Status
release_refusal t w c = first_of ((not (holds (hand_of t.hands w) c), status.NotHeld) ∷ [])

-- ---- the same, with what completions carry

abbrev pub kept_grabbed : ContextsKept → ℕ → CtxId → ContextsKept
kept_grabbed kept w c = record kept { table = grabbed kept.table w c }

abbrev pub kept_released : ContextsKept → ℕ → CtxId → ContextsKept
kept_released kept w c = record kept { table = released (carried_of kept) kept.table w c }

-- a completion takes a reference along, or brings one back
abbrev pub kept_carried : ContextsKept → ℕ → CtxId → ContextsKept
kept_carried kept w c = record { table = handed_on kept.table w c; carried = carried_more kept.carried c }

abbrev pub kept_brought : ContextsKept → ℕ → CtxId → ContextsKept
kept_brought kept w c = record { table = grabbed kept.table w c; carried = carried_fewer kept.carried c }
