-- What completions carry, after each change of what is kept.
use Rattle.fm_ctx.proofs.Words.{ℕ, true, cond, List, length, None, is_some, unwrap_or, refl, sym, ap, ap₂, arith, get_or_from_slice_get}
use Rattle.fm_ctx.proofs.Words.{slice_get_within, CtxId, updated, updated-same, updated-other, one, is_id, Context, Slot, ContextTable, context_at}
use Rattle.fm_ctx.proofs.Words.{ContextsKept, carried_of, carried_more, carried_fewer, IsNew, kept_allocated, cleaned, nat_tests}
use Rattle.std.proofs.Common.{◌≡◌, ◌+◌, ◌-◌, ◌<◌, ◌∙◌, ◌≢◌, slice_index}
use Rattle.std.proofs.lemmas.Option.{slice_get-get_or, unwrap_or-slice_get}
use Rattle.fm_ctx.proofs.Bags.{is_id-same}
use Rattle.std.proofs.lemmas.Grind.{common_steps}
use Rattle.fm_ctx.proofs.Slots.{new_absent, new_slot_absent, context_at-placed, context_at-placed_other, context_at-here, context_at-other}

-- a change that leaves the contexts there leaves what is carried
pub carried_there : (kept : ContextsKept) (t : ContextTable)
    → ((c : CtxId) → is_some (context_at t.slots c) ≡ is_some (context_at kept.table.slots c)) → (c : CtxId)
    → carried_of kept c ≡ carried_of (record kept { table = t }) c
unfolding carried_of
carried_there kept t there c = ap (λ b. cond b (slice_index kept.carried c.slot) 0) (sym (there c))

-- two ids of one slot can't both name its context
pub same_slot : (slots : List Slot) (c d : CtxId) → is_some (context_at slots c) ≡ true → is_some (context_at slots d) ≡ true
    → d.slot ≡ c.slot → is_id d c ≡ true
unfolding context_at
same_slot slots c d has_c has_d same = grind (arith, nat_tests)

index_updated : (f : ℕ → ℕ) (xs : List ℕ) (k : ℕ) → k < length xs → slice_index (updated f xs k) k ≡ f (slice_index xs k)
index_updated f xs k within =
    get_or_from_slice_get (updated f xs k) k (f (slice_index xs k)) 0 (updated-same f xs k (slice_index xs k) (slice_get-get_or xs k 0 within))

index_apart : (f : ℕ → ℕ) (xs : List ℕ) (k j : ℕ) → j ≢ k → slice_index (updated f xs k) j ≡ slice_index xs j
index_apart f xs k j apart =
    sym (unwrap_or-slice_get (updated f xs k) j 0) ∙ ap (λ o. unwrap_or o 0) (updated-other f xs k j apart) ∙ unwrap_or-slice_get xs j 0

-- what is carried where the number of one slot changes, and the contexts that are there stay
carried_changed : (f : ℕ → ℕ) (kept : ContextsKept) (t : ContextTable) (c : CtxId)
    → ((d : CtxId) → is_some (context_at t.slots d) ≡ is_some (context_at kept.table.slots d))
    → is_some (context_at kept.table.slots c) ≡ true → c.slot < length kept.carried → (d : CtxId)
    → carried_of (record { table = t; carried = updated f kept.carried c.slot }) d ≡ cond (is_id d c) (f (carried_of kept d)) (carried_of kept d)
unfolding carried_of
carried_changed f kept t c there has within d =
    let here = index_updated f kept.carried c.slot within in
    grind (arith, nat_tests, there d, is_id-same d c, same_slot kept.table.slots c d has, index_apart f kept.carried c.slot d.slot)

-- a completion carries one more
pub carried_one_more : (kept : ContextsKept) (t : ContextTable) (c : CtxId)
    → ((d : CtxId) → is_some (context_at t.slots d) ≡ is_some (context_at kept.table.slots d))
    → is_some (context_at kept.table.slots c) ≡ true → c.slot < length kept.carried → (d : CtxId)
    → carried_of (record { table = t; carried = carried_more kept.carried c }) d ≡ carried_of kept d + one (is_id d c)
carried_one_more kept t c there has within d = grind (arith, nat_tests, carried_changed (λ n. n + 1) kept t c there has within d)

carried_present : (kept : ContextsKept) (c : CtxId) → 0 < carried_of kept c → is_some (context_at kept.table.slots c) ≡ true
unfolding carried_of
carried_present kept c some = grind (arith, nat_tests)

-- or one fewer
pub carried_one_fewer : (kept : ContextsKept) (t : ContextTable) (c : CtxId)
    → ((d : CtxId) → is_some (context_at t.slots d) ≡ is_some (context_at kept.table.slots d))
    → 0 < carried_of kept c → c.slot < length kept.carried → (d : CtxId)
    → carried_of kept d ≡ carried_of (record { table = t; carried = carried_fewer kept.carried c }) d + one (is_id d c)
carried_one_fewer kept t c there some within d =
    grind (arith, nat_tests, carried_changed (λ n. n - 1) kept t c there (carried_present kept c some) within d, is_id-same d c)

-- of a new context nothing is carried, of all others as much as before
pub carried_allocated : (kept : ContextsKept) (w : ℕ) (c : CtxId) (x : Context) → IsNew kept.table.slots c
    → length kept.carried ≡ length kept.table.slots → (d : CtxId)
    → carried_of kept d ≡ carried_of (kept_allocated kept w c x) d
unfolding carried_of
carried_allocated kept w c x new matched d =
    grind (
      arith,
      nat_tests,
      new_absent kept.table.slots c new,
      context_at-placed kept.table.slots c x new,
      context_at-placed_other kept.table.slots c x d new,
      new_slot_absent kept.table.slots c d new,
      common_steps,
      is_id-same d c,
      slice_get_within,
    )

-- what is cleaned was carried by none
pub carried_cleaned : (kept : ContextsKept) (w : ℕ) (c : CtxId) → carried_of kept c ≡ 0 → (d : CtxId)
    → carried_of kept d ≡ carried_of (record kept { table = cleaned kept.table w c }) d
unfolding carried_of
carried_cleaned kept w c none d =
    grind (arith, nat_tests, none, context_at-here (λ o. None) kept.table.slots c refl, context_at-other (λ o. None) kept.table.slots c d, is_id-same d c)

-- the same slots and the same numbers
pub carried_equal : (kept kept' : ContextsKept) → kept.table.slots ≡ kept'.table.slots → kept.carried ≡ kept'.carried → (c : CtxId)
    → carried_of kept c ≡ carried_of kept' c
unfolding carried_of
carried_equal kept kept' slots carried c =
    ap₂ (λ (ss : List Slot) (ns : List ℕ). cond (is_some (context_at ss c)) (slice_index ns c.slot) 0) slots carried

pub carried_numbers : (kept kept' : ContextsKept) → kept'.carried ≡ kept.carried → (c : CtxId)
    → carried_of (record kept { table = kept'.table }) c ≡ carried_of kept' c
carried_numbers kept kept' same = carried_equal (record kept { table = kept'.table }) kept' refl (sym same)
