-- Contexts by their ids, after changes of slots.
use Rattle.fm_ctx.proofs.Words.{ℕ, Bool, true, false, List, [], length, slice_get, count_by, Option, Some, None, is_some, option_map, refl, arith}
use Rattle.fm_ctx.proofs.Words.{nat_tests, length-append, length-set, CtxId, slice_get-append_left, slice_get-push, count_by-updated, updated-same}
use Rattle.fm_ctx.proofs.Words.{updated-other, slice_get_within, slice_get_past, one, is_id, Context, Slot, context_in, context_at, changed_slot}
use Rattle.fm_ctx.proofs.Words.{change_context, IsNew, new_slot, placed, sum_by-set}
use Rattle.std.proofs.Common.{◌≡◌, ◌≤◌, ◌+◌, ◌∷◌, ◌≢◌}
use Rattle.std.proofs.lemmas.List.{set_past}
use Rattle.fm_types.proofs.Lists.{updated_none, slice_get-set_same, slice_get-set_other, count_by-push}
use Rattle.fm_ctx.proofs.Bags.{is_id-same}

pub none_from : {X : Type 0} (o : Option X) → is_some o ≡ false → o ≡ None
none_from o lacks = grind arith

-- ---- one context is changed

-- the context that is changed
pub context_at-here : (f : Option Context → Option Context) (slots : List Slot) (c : CtxId) → f None ≡ None
    → context_at (change_context f slots c) c ≡ f (context_at slots c)
unfolding context_at
context_at-here f slots c none = grind (arith, nat_tests, updated_none, updated-same)

-- all others
pub context_at-other : (f : Option Context → Option Context) (slots : List Slot) (c d : CtxId) → is_id d c ≡ false
    → context_at (change_context f slots c) d ≡ context_at slots d
unfolding context_at
context_at-other f slots c d other = grind (arith, nat_tests, updated_none, updated-same, updated-other)

-- a change of a context leaves it there
pub there_changed : (g : Context → Context) (slots : List Slot) (c : CtxId) → (d : CtxId)
    → is_some (context_at (change_context (option_map g) slots c) d) ≡ is_some (context_at slots d)
there_changed g slots c d =
    grind (arith, nat_tests, context_at-here (option_map g) slots c refl, context_at-other (option_map g) slots c d, is_id-same)

-- ---- a new context

-- an id that is new names nothing
pub new_absent : (slots : List Slot) (c : CtxId) → IsNew slots c → context_at slots c ≡ None
unfolding context_at
new_absent slots c new = grind (arith, nat_tests, slice_get_past)

placed_here : (slots : List Slot) (c : CtxId) (x : Context) → IsNew slots c → slice_get (placed slots c x) c.slot ≡ Some (new_slot c x)
placed_here slots c x new = grind (arith, nat_tests, slice_get-push, slice_get-set_same, slice_get_within)

-- the new context is there
pub context_at-placed : (slots : List Slot) (c : CtxId) (x : Context) → IsNew slots c → context_at (placed slots c x) c ≡ Some x
unfolding context_at
context_at-placed slots c x new = grind (arith, nat_tests, placed_here)

placed_apart : (slots : List Slot) (c : CtxId) (x : Context) (k : ℕ) → IsNew slots c → k ≢ c.slot → slice_get (placed slots c x) k ≡ slice_get slots k
placed_apart slots c x k new apart =
    grind (arith, nat_tests, slice_get-append_left, slice_get_past, slice_get-set_other, slice_get_within, length-append slots (new_slot c x ∷ []))

-- no id of the slot of a new context named one before
pub new_slot_absent : (slots : List Slot) (c d : CtxId) → IsNew slots c → d.slot ≡ c.slot → context_at slots d ≡ None
unfolding context_at
new_slot_absent slots c d new same = grind (arith, nat_tests, slice_get_past)

-- all others stay
pub context_at-placed_other : (slots : List Slot) (c : CtxId) (x : Context) (d : CtxId) → IsNew slots c → is_id d c ≡ false
    → context_at (placed slots c x) d ≡ context_at slots d
unfolding context_at
context_at-placed_other slots c x d new other =
    grind (arith, nat_tests, placed_here slots c x new, placed_apart slots c x d.slot new, new_slot_absent slots c d new)

-- ---- counts of slots

pub one_weaker : (a b : Bool) → (a ≡ true → b ≡ true) → one a ≤ one b
one_weaker a b weaker = grind (arith, nat_tests)

pub count_changed : (p : Slot → Bool) (f : Option Context → Option Context) (slots : List Slot) (c : CtxId)
    → ((s : Slot) → slice_get slots c.slot ≡ Some s → p (changed_slot f c s) ≡ true → p s ≡ true) → count_by p (change_context f slots c) ≤ count_by p slots
count_changed p f slots c weaker = at_slot (slice_get slots c.slot) refl
  where
    at_slot : (o : Option Slot) → slice_get slots c.slot ≡ o → count_by p (change_context f slots c) ≤ count_by p slots
    at_slot None there = grind (arith, updated_none (changed_slot f c) slots c.slot there)
    at_slot (Some s) there = grind (arith, nat_tests, count_by-updated p (changed_slot f c) slots c.slot s there, weaker s there)

-- a change of one context adds at most one
pub count_changed_one : (p : Slot → Bool) (f : Option Context → Option Context) (slots : List Slot) (c : CtxId)
    → count_by p (change_context f slots c) ≤ count_by p slots + 1
count_changed_one p f slots c = at_slot (slice_get slots c.slot) refl
  where
    at_slot : (o : Option Slot) → slice_get slots c.slot ≡ o → count_by p (change_context f slots c) ≤ count_by p slots + 1
    at_slot None there = grind (arith, updated_none (changed_slot f c) slots c.slot there)
    at_slot (Some s) there = grind (arith, nat_tests, count_by-updated p (changed_slot f c) slots c.slot s there)

-- the slot that has the context of an id
pub slot_of_context : (slots : List Slot) (c : CtxId) (x : Context) (s : Slot) → context_at slots c ≡ Some x
    → slice_get slots c.slot ≡ Some s → context_in c s ≡ Some x
unfolding context_at
slot_of_context slots c x s there slot = grind arith

-- a new context without a link adds to no count of links
pub count_placed : (p : Slot → Bool) (slots : List Slot) (c : CtxId) (x : Context) → p (new_slot c x) ≡ false → count_by p (placed slots c x) ≤ count_by p slots
count_placed p slots c x lacks =
    let s = new_slot c x in
    grind (arith, nat_tests, count_by-push p slots s, set_past slots c.slot s, sum_by-set (λ y. one (p y)) slots c.slot s s)

-- a new slot, or one that was there
pub few_placed : (slots : List Slot) (c : CtxId) (x : Context) → IsNew slots c → length slots ≤ 65536 → length (placed slots c x) ≤ 65536
few_placed slots c x new few =
    grind (arith, nat_tests, length-append slots (new_slot c x ∷ []), length-set slots c.slot (new_slot c x), slice_get_within)
