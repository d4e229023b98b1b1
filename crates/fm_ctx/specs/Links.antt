-- Links: which context of an owner is set on an object, and what set, get and delete make of it.
use Rattle.std.specs.Prelude.{◌≡◌, ℕ, ◌&&◌, Bool, cond, List, [], ◌∷◌, ◌++◌, slice_get, slice_set, position, Option, Some, None, is_none, IfSome, count_by, option_map, unwrap_or}
use Rattle.fm_types.specs.declared.ids.CtxId.{CtxId}
use Rattle.fm_types.specs.declared.status.Status.{Status}
use Rattle.fm_types.specs.declared.status.Status.TheVariants as status
use Rattle.fm_types.specs.Refusals.{first_of}
use Rattle.fm_ctx.specs.declared.object.Object.{Object}
use Rattle.fm_ctx.specs.declared.owner.Owner.{Owner}
use Rattle.fm_ctx.specs.declared.set_reply.SetMode.{SetMode}
use Rattle.fm_ctx.specs.declared.set_reply.SetMode.TheVariants.{Keep, Replace}
use Rattle.fm_ctx.specs.declared.set_reply.SetReply.{SetReply}
use Rattle.fm_ctx.specs.declared.set_reply.SetReply.TheVariants.{Linked, AlreadyDefined, HandFull}
use Rattle.fm_ctx.specs.Bags.{hand_of, is_hand_full}
use Rattle.fm_ctx.specs.Table.{Context, Slot, ContextTable, context_at, change_context}
use Rattle.fm_ctx.specs.Kept.{ContextsKept, carried_of}
use Rattle.fm_ctx.specs.Laws.{has_link}
use Rattle.fm_ctx.specs.References.{due_after, grabbed}

-- the id that was given last of a slot
abbrev pub id_at : List Slot → ℕ → CtxId
id_at slots k = record { slot = k; generation = unwrap_or (option_map (λ (s : Slot). s.generation) (slice_get slots k)) 0 }

-- the owner's context that is linked to the object
unfoldable pub holder : List Slot → Owner → Object → Option CtxId
holder slots owner object = option_map (id_at slots) (position (has_link owner object) slots)

abbrev pub with_link : Option Object → Context → Context
with_link link x = record x { link = link }

-- the context gets that link; its reference is one more
abbrev pub linked : ContextTable → CtxId → Object → ContextTable
linked t c object = record t { slots = change_context (option_map (with_link (Some object))) t.slots c }

-- the context loses its link, and the link's reference goes
abbrev pub unlinked : (CtxId → ℕ) → ContextTable → CtxId → ContextTable
unlinked carried t c =
    record t {
      slots = change_context (option_map (with_link None)) t.slots c;
      due = due_after carried t c;
    }

-- the context loses its link, and the link's reference goes to the hand
abbrev pub unlinked_into : ContextTable → ℕ → CtxId → ContextTable
unlinked_into t w c =
    record t {
      slots = change_context (option_map (with_link None)) t.slots c;
      hands = slice_set t.hands w (hand_of t.hands w ++ c ∷ []);
    }

-- a context that has no link, and whose owner has none linked to the object
abbrev pub IsFree : ContextTable → CtxId → Object → Type 0
IsFree t c object =
    IfSome (context_at t.slots c) (λ (x : Context). (x.link ≡ None) × (count_by (has_link x.owner object) t.slots ≡ 0))

-- ---- set

-- the old context, where the caller wants it
abbrev pub wanted : Bool → CtxId → Option CtxId
wanted wants old = cond wants (Some old) None

abbrev pub set_mode_reply : SetMode → Option CtxId → SetReply
set_mode_reply Keep old = AlreadyDefined old
set_mode_reply Replace old = Linked old

-- what set answers, by the context that is linked there
abbrev pub set_reply : ContextTable → ℕ → SetMode → Bool → Option CtxId → SetReply
set_reply t w mode wants None = Linked None
set_reply t w mode wants (Some old) = cond (wants && is_hand_full t.hands w) HandFull (set_mode_reply mode (wanted wants old))

-- Keep leaves the link; where the old one is wanted, the hand gets a reference to it
abbrev pub kept_after : ContextTable → ℕ → Bool → CtxId → ContextTable
kept_after t w wants old = cond wants (grabbed t w old) t

-- the old one loses its link; its reference goes to the hand where it is wanted
abbrev pub unlinked_for : (CtxId → ℕ) → ContextTable → ℕ → Bool → CtxId → ContextTable
unlinked_for carried t w wants old = cond wants (unlinked_into t w old) (unlinked carried t old)

abbrev pub set_mode_after : (CtxId → ℕ) → ContextTable → ℕ → CtxId → Object → SetMode → Bool → CtxId → ContextTable
set_mode_after carried t w c object Keep wants old = kept_after t w wants old
set_mode_after carried t w c object Replace wants old = linked (unlinked_for carried t w wants old) c object

abbrev pub set_after : (CtxId → ℕ) → ContextTable → ℕ → CtxId → Object → SetMode → Bool → Option CtxId → ContextTable
set_after carried t w c object mode wants None = linked t c object
set_after carried t w c object mode wants (Some old) =
    cond (wants && is_hand_full t.hands w) t (set_mode_after carried t w c object mode wants old)

abbrev pub kept_set : ContextsKept → ℕ → CtxId → Owner → Object → SetMode → Bool → ContextsKept
kept_set kept w c owner object mode wants =
    record kept { table = set_after (carried_of kept) kept.table w c object mode wants (holder kept.table.slots owner object) }

-- what set requires of its context: nothing links it, and it is of that owner
abbrev pub IsUnlinkedOf : Owner → Option Context → Type 0
IsUnlinkedOf owner None = ⊥
IsUnlinkedOf owner (Some x) = (x.link ≡ None) × (x.owner ≡ owner)

-- ---- get and delete

abbrev pub get_refusal : ContextTable → ℕ → Option CtxId → Option Status
get_refusal t w there =
    first_of ((is_none there, status.NoContext) ∷ (is_hand_full t.hands w, status.HandFull) ∷ [])

abbrev pub get_refused : ContextsKept → ℕ → Owner → Object → Option Status
get_refused kept w owner object = get_refusal kept.table w (holder kept.table.slots owner object)

-- the answer is the id of the context that is linked there; the hand gets a reference to it
abbrev pub Gets : ContextsKept → ContextsKept → ℕ → Owner → Object → CtxId → Type 0
Gets old new w owner object c = (holder old.table.slots owner object ≡ Some c) × (new ≡ record old { table = grabbed old.table w c })

-- what delete answers and does, by the context that is linked there
abbrev pub delete_reply : Bool → Option CtxId → Option CtxId
delete_reply wants None = None
delete_reply wants (Some old) = wanted wants old

abbrev pub delete_after : (CtxId → ℕ) → ContextTable → ℕ → Bool → Option CtxId → ContextTable
delete_after carried t w wants None = t
delete_after carried t w wants (Some old) = unlinked_for carried t w wants old

abbrev pub delete_refusal : ContextTable → ℕ → Bool → Option CtxId → Option Status
delete_refusal t w wants there =
    first_of ((is_none there, status.NoContext) ∷ (wants && is_hand_full t.hands w, status.HandFull) ∷ [])

abbrev pub Deletes : ContextsKept → ContextsKept → ℕ → Owner → Object → Bool → Option CtxId → Type 0
Deletes old new w owner object wants reply =
    let there = holder old.table.slots owner object in
    (reply ≡ delete_reply wants there) × (new ≡ record old { table = delete_after (carried_of old) old.table w wants there })

abbrev pub delete_refused : ContextsKept → ℕ → Owner → Object → Bool → Option Status
delete_refused kept w owner object wants = delete_refusal kept.table w wants (holder kept.table.slots owner object)
