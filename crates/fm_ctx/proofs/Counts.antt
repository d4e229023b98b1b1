-- Reference counts after each change of the table.
use Rattle.fm_ctx.proofs.Words.{ℕ, cond, eqb, List, [], length, Some, None, is_some, option_map, refl, arith, nat_tests, CtxId, Object, one}
use Rattle.fm_ctx.proofs.Words.{true, is_id, references, holds, hand_of, Context, Slot, ContextTable, context_at, link_at, link_count, count_in}
use Rattle.fm_ctx.proofs.Words.{change_context, grabbed, released, due_after, with_link, linked, unlinked, newly}
use Rattle.std.proofs.Common.{◌≡◌, ◌+◌, ◌<◌, ◌∷◌, ◌++◌, append-nil}
use Rattle.fm_ctx.proofs.Bags.{is_id-same, references_none, references_cons, held_push, held_without, counted_in_hand}
use Rattle.fm_ctx.proofs.Slots.{context_at-here, context_at-other}

-- one more reference in a hand
pub count_grabbed : (carried : CtxId → ℕ) (t : ContextTable) (w : ℕ) (c : CtxId) → w < length t.hands → (d : CtxId)
    → count_in carried (grabbed t w c) d ≡ count_in carried t d + one (is_id d c)
count_grabbed carried t w c within d = omega (arith, held_push t.hands w c within d)

-- one fewer
pub count_released : (carried : CtxId → ℕ) (t : ContextTable) (w : ℕ) (c : CtxId) → w < length t.hands → holds (hand_of t.hands w) c ≡ true → (d : CtxId)
    → count_in carried (released carried t w c) d + one (is_id d c) ≡ count_in carried t d
count_released carried t w c within has d = omega (arith, held_without t.hands w c within has d)

-- what a worker holds has a count
pub count_held : (carried : CtxId → ℕ) (t : ContextTable) (w : ℕ) (c : CtxId) → w < length t.hands → holds (hand_of t.hands w) c ≡ true
    → 0 < count_in carried t c
count_held carried t w c within has = omega (arith, counted_in_hand t.hands w c within has)

-- so has what is linked
pub count_linked_one : (carried : CtxId → ℕ) (t : ContextTable) (c : CtxId) → is_some (link_at t.slots c) ≡ true → 0 < count_in carried t c
count_linked_one carried t c has = grind (arith, nat_tests)

-- a new link is one more
pub count_linked : (carried : CtxId → ℕ) (t : ContextTable) (c : CtxId) (x : Context) (object : Object) → context_at t.slots c ≡ Some x
    → x.link ≡ None → (d : CtxId)
    → count_in carried (linked t c object) d ≡ count_in carried t d + one (is_id d c)
count_linked carried t c x object there bare d = grind (arith, nat_tests, context_at-here, context_at-other, is_id-same)

-- a link that goes is one fewer
pub links_unlinked : (slots : List Slot) (c : CtxId) → is_some (link_at slots c) ≡ true → (d : CtxId)
    → link_count (context_at (change_context (option_map (with_link None)) slots c) d) + one (is_id d c) ≡ link_count (context_at slots d)
links_unlinked slots c has d = grind (arith, nat_tests, context_at-here, context_at-other, is_id-same)

pub count_unlinked : (carried : CtxId → ℕ) (t : ContextTable) (c : CtxId) → is_some (link_at t.slots c) ≡ true → (d : CtxId)
    → count_in carried (unlinked carried t c) d + one (is_id d c) ≡ count_in carried t d
count_unlinked carried t c has d = omega (arith, links_unlinked t.slots c has d)

-- a change that leaves the link leaves the count
pub links_kept : (g : Context → Context) (slots : List Slot) (c : CtxId) → ((x : Context) → (g x).link ≡ x.link) → (d : CtxId)
    → link_count (context_at (change_context (option_map g) slots c) d) ≡ link_count (context_at slots d)
links_kept g slots c keeps d =
    grind (arith, nat_tests, context_at-here (option_map g) slots c refl, context_at-other (option_map g) slots c d, is_id-same, keeps)

-- ---- what becomes due

-- the context itself, where that was its last reference
abbrev pub fresh_after : ℕ → CtxId → List CtxId
fresh_after n c = cond (eqb n 1) (c ∷ []) []

pub due_after_fresh : (carried : CtxId → ℕ) (t : ContextTable) (c : CtxId) → due_after carried t c ≡ t.due ++ fresh_after (count_in carried t c) c
due_after_fresh carried t c = grind (arith, nat_tests, append-nil t.due)

-- where one reference to a context goes, that one alone may become due
pub fresh_each : (carried : CtxId → ℕ) (t : ContextTable) (carried' : CtxId → ℕ) (t' : ContextTable) (c : CtxId)
    → ((d : CtxId) → count_in carried' t' d + one (is_id d c) ≡ count_in carried t d) → (d : CtxId)
    → references (fresh_after (count_in carried t c) c) d ≡ newly (count_in carried t d) (count_in carried' t' d)
fresh_each carried t carried' t' c step d = grind (arith, nat_tests, references_cons, references_none, is_id-same, step d, step c)
