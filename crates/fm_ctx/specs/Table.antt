-- Contexts by their ids: slots by number, each with the generation that was given last.
use Rattle.std.specs.Prelude.{ℕ, ◌+◌, ◌==◌, cond, List, [], Option, Some, None, is_some, option_map, option_and_then, slice_get, replicate}
use Rattle.fm_types.specs.declared.ids.CtxId.{CtxId}
use Rattle.fm_types.specs.declared.ids.VolumeId.{VolumeId}
use Rattle.fm_types.specs.declared.context_kind.ContextKind.{ContextKind}
use Rattle.fm_types.specs.Lists.{updated}
use Rattle.fm_ctx.specs.declared.object.Object.{Object}
use Rattle.fm_ctx.specs.declared.owner.Owner.{Owner}
use Rattle.fm_ctx.specs.Bags.{one, held}

-- a context that isn't cleaned
pub record Context : Type 0 where
  pub kind : ContextKind
  pub owner : Owner
  -- that of the callback which allocated it
  pub volume : VolumeId
  pub body : List ℕ
  pub link : Option Object

pub record Slot : Type 0 where
  -- the one that was given last
  pub generation : ℕ
  -- none once that context is cleaned
  pub context : Option Context

pub record ContextTable : Type 0 where
  pub slots : List Slot
  -- what each of the 48 workers holds
  pub hands : List (List CtxId)
  -- the contexts without references, in the order in which they lost the last one
  pub due : List CtxId
  -- which context each worker cleans up
  pub cleaning : List (Option CtxId)
  -- how many references callbacks left behind
  pub leaks : ℕ
  -- what was in each worker's hand as its last callback returned
  pub left : List (List CtxId)

abbrev pub empty_table : ContextTable
empty_table = record { slots = []; hands = replicate 48 []; due = []; cleaning = replicate 48 None; leaks = 0; left = replicate 48 [] }

-- the context of a slot, where the id is of its generation
abbrev pub context_in : CtxId → Slot → Option Context
context_in c s = cond (c.generation == s.generation) s.context None

-- the context that an id names, if there is one that isn't cleaned
unfoldable pub context_at : List Slot → CtxId → Option Context
context_at slots c = option_and_then (context_in c) (slice_get slots c.slot)

abbrev pub link_at : List Slot → CtxId → Option Object
link_at slots c = option_and_then (λ (x : Context). x.link) (context_at slots c)

abbrev pub owner_at : List Slot → CtxId → Option Owner
owner_at slots c = option_map (λ (x : Context). x.owner) (context_at slots c)

abbrev pub kind_at : List Slot → CtxId → Option ContextKind
kind_at slots c = option_map (λ (x : Context). x.kind) (context_at slots c)

abbrev pub volume_at : List Slot → CtxId → Option VolumeId
volume_at slots c = option_map (λ (x : Context). x.volume) (context_at slots c)

-- 1 for the reference of a link
abbrev pub link_count : Option Context → ℕ
link_count None = 0
link_count (Some x) = one (is_some x.link)

-- the reference count: the link, what completions carry, what workers hold
abbrev pub count_in : (CtxId → ℕ) → ContextTable → CtxId → ℕ
count_in carried t c = link_count (context_at t.slots c) + carried c + held t.hands c

-- a slot whose context an id names, with that context changed
abbrev pub changed_slot : (Option Context → Option Context) → CtxId → Slot → Slot
changed_slot f c s = cond (c.generation == s.generation) (record s { context = f s.context }) s

-- the context that an id names, changed; all others stay
abbrev pub change_context : (Option Context → Option Context) → List Slot → CtxId → List Slot
change_context f slots c = updated (changed_slot f c) slots c.slot
