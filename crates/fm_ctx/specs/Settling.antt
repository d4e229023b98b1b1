-- Several references go in one event: the contexts that lost their last one are due, in some order.
use Rattle.std.specs.Prelude.{◌≡◌, ℕ, ◌+◌, ◌-◌, ◌^◌, ◌≤◌, ◌==◌, ◌&&◌, Bool, cond, nat_lt, min, List, [], ◌++◌, length, map, slice_set, None, is_some, option_map}
use Rattle.fm_types.specs.declared.ids.CtxId.{CtxId}
use Rattle.fm_ctx.specs.declared.object.Object.{Object}
use Rattle.fm_ctx.specs.declared.owner.Owner.{Owner}
use Rattle.fm_ctx.specs.Bags.{one, references, hand_of}
use Rattle.fm_ctx.specs.Objects.{is_to, same_owner}
use Rattle.fm_ctx.specs.Table.{Context, Slot, ContextTable, count_in}
use Rattle.fm_ctx.specs.Kept.{ContextsKept}
use Rattle.fm_ctx.specs.Links.{with_link}

-- 1 where a count above zero fell to zero
abbrev pub newly : ℕ → ℕ → ℕ
newly before after = one (nat_lt 0 before && (after == 0))

-- no count rises; the contexts whose last reference went are due behind the others, each once
pub record Settles (carried : CtxId → ℕ) (old : ContextTable) (carried' : CtxId → ℕ) (new : ContextTable) : Type 0 where
  pub fresh : List CtxId
  pub due : new.due ≡ old.due ++ fresh
  pub each : (c : CtxId) → references fresh c ≡ newly (count_in carried old c) (count_in carried' new c)
  pub falls : (c : CtxId) → count_in carried' new c ≤ count_in carried old c

-- the number stays at 2^64 - 1 once it is there
abbrev pub more_leaks : ℕ → ℕ → ℕ
more_leaks leaks n = min (leaks + n) (2 ^ 64 - 1)

-- what is in a worker's hand is noted as what it leaves behind
abbrev pub noted : ContextTable → ℕ → ContextTable
noted t w = record t { left = slice_set t.left w (hand_of t.hands w) }

abbrev pub kept_noted : ContextsKept → ℕ → ContextsKept
kept_noted kept w = record kept { table = noted kept.table w }

-- a callback of the worker returned: what is in its hand leaks, and is what it left behind
pub record Leaves (carried : CtxId → ℕ) (old new : ContextTable) (w : ℕ) : Type 0 where
  pub slots : new.slots ≡ old.slots
  pub hands : new.hands ≡ slice_set old.hands w []
  pub cleaning : new.cleaning ≡ old.cleaning
  pub leaks : new.leaks ≡ more_leaks old.leaks (length (hand_of old.hands w))
  pub left : new.left ≡ slice_set old.left w (hand_of old.hands w)
  pub settles : Settles carried old carried new

-- the contexts that are linked to an object, and the linked ones of an owner
abbrev pub is_linked_to : Object → Context → Bool
is_linked_to object x = is_to object x.link

abbrev pub is_linked_of : Owner → Context → Bool
is_linked_of owner x = is_some x.link && same_owner owner x.owner

-- a context that passes the test loses its link
abbrev pub swept : (Context → Bool) → Context → Context
swept test x = cond (test x) (with_link None x) x

abbrev pub swept_slot : (Context → Bool) → Slot → Slot
swept_slot test s = record s { context = option_map (swept test) s.context }

-- the links of all contexts that pass the test go
pub record Sweeps (carried : CtxId → ℕ) (test : Context → Bool) (old new : ContextTable) : Type 0 where
  pub slots : new.slots ≡ map (swept_slot test) old.slots
  pub hands : new.hands ≡ old.hands
  pub cleaning : new.cleaning ≡ old.cleaning
  pub leaks : new.leaks ≡ old.leaks
  pub left : new.left ≡ old.left
  pub settles : Settles carried old carried new
