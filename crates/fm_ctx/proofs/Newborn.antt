-- A new row stands for a new context.
use Rattle.fm_ctx.proofs.Words.{ℕ, Bool, true, false, cond, List, [], length, set, slice_get, Option, Some, None, sym, ap, subst, arith, inl, length-append, length-set, ne_eqb}
use Rattle.fm_ctx.proofs.Words.{eq-eqb, length-map, cases_eq, inr, CtxId, slice_get-map, slice_get-push, slice_get-append_left, slice_get_past, slice_get_within, slice_get-some}
use Rattle.fm_ctx.proofs.Words.{get_or_from_slice_get, Row, Seat, one, is_id, option_map, hand_of, Slot, ContextsKept, carried_of, IsNew, placed, kept_allocated, same_Some}
use Rattle.fm_ctx.proofs.Words.{context_of, slot_of, slots_of, seat_in, seats_of, carried_in, row_at, stored, IsFresh, IsPut, put_row, life_of, lives_of}
use Rattle.fm_ctx.proofs.Words.{IsSound, kept_in, nat_tests, map_push, carried_none, Tally}
use Rattle.std.proofs.Common.{◌≡◌, ◌+◌, ◌<◌, ◌≢◌, ◌∷◌, ◌++◌, ◌∙◌, ◌⊎◌}
use Rattle.std.proofs.Math.Seq.{map-set_same}
use Rattle.std.proofs.lemmas.List.{map-set}
use Rattle.fm_types.proofs.Lists.{slice_get-set_same, slice_get-set_other}
use Rattle.fm_ctx.specs.Births.{last_generation, is_free}
use Rattle.fm_ctx.specs.Generations.{Life, IsAccount, begun}
use Rattle.fm_ctx.proofs.Bags.{is_id-same}
use Rattle.fm_ctx.proofs.Slots.{new_slot_absent}
use Rattle.fm_ctx.proofs.Rows.{context_at-rows}
use Rattle.fm_ctx.proofs.Accounts.{account_new, account_again}
use Rattle.fm_ctx.proofs.Moves.{within_hands}
use Rattle.fm_ctx.proofs.Lives.{allocate_keeps, count_allocated}
use Rattle.fm_ctx.proofs.Carried.{carried_allocated}
use Rattle.fm_ctx.proofs.Alike.{lawful_alike}

-- ---- the row is put there

module _ (rows : List Row) (c : CtxId) (r : Row) (new : IsNew (slots_of rows) c) where
  abbrev named : Row
  named = record r { generation = c.generation }

  put_here : slice_get (put_row rows c r) c.slot ≡ Some named
  put_here = grind (
    arith,
    nat_tests,
    new,
    length-map rows slot_of,
    slice_get-push rows named,
    slice_get-set_same rows c.slot named,
    slice_get_within (slots_of rows) c.slot,
  )

  put_apart : (k : ℕ) → k ≢ c.slot → slice_get (put_row rows c r) k ≡ slice_get rows k
  put_apart k apart =
      grind (
        arith,
        nat_tests,
        new,
        length-map rows slot_of,
        slice_get-append_left rows (named ∷ []) k,
        slice_get_past rows k,
        slice_get_past (rows ++ named ∷ []) k,
        slice_get-set_other rows c.slot k named apart,
        length-append rows (named ∷ []),
      )

  stored_put : IsFresh r → (d : CtxId) → stored (put_row rows c r) d ≡ stored rows d + one (is_id d c)
  unfolding row_at
  stored_put fresh d =
      elim (cases_eq d.slot c.slot) [
        | inl is ↦
            let none = new_slot_absent (slots_of rows) c d new is in
            grind (arith, nat_tests, put_here, none, context_at-rows rows d, is_id-same d c, fresh.count, fresh.open_yet)
        | inr apart ↦ grind (arith, nat_tests, put_apart d.slot apart, is_id-same d c)
      ]

  -- what the fields show
  pub slots_put : IsFresh r → slots_of (put_row rows c r) ≡ placed (slots_of rows) c (context_of named)
  slots_put fresh =
      grind (arith, nat_tests, map_push slot_of rows named, map-set slot_of rows c.slot named, length-map rows slot_of, fresh.open_yet)

  pub carried_put : IsFresh r → carried_in (put_row rows c r) ≡ carried_none (carried_in rows) c
  carried_put fresh =
      let carried : Row → ℕ = λ q. q.carried in
      grind (arith, nat_tests, map_push carried rows named, map-set carried rows c.slot named, length-map rows carried, fresh.carried)

pub sound_allocated : {rows : List Row} {hands : List (List CtxId)} {due : List CtxId} {cleaning : List (Option CtxId)} {leaks : ℕ}
    {left : List (List CtxId)} {kept : ContextsKept} (w : ℕ) (r : Row) (c : CtxId)
    → IsSound rows kept → kept_in rows hands due cleaning leaks left ≡ kept → w < 48 → IsNew (slots_of rows) c → IsFresh r
    → length (hand_of kept.table.hands w) < 16
    → IsSound (put_row rows c r) (kept_allocated kept w c (context_of r))
sound_allocated {rows} {kept = kept} w r c s shows worker new fresh hand_room =
    let as_long : length kept.table.slots ≡ length rows = ap (λ (k : ContextsKept). length k.table.slots) (sym shows) ∙ length-map rows slot_of in
    let matched : length kept.carried ≡ length rows = ap (λ (k : ContextsKept). length k.carried) (sym shows) ∙ length-map rows (λ (q : Row). q.carried) in
    let now = subst (λ (k : ContextsKept). IsNew k.table.slots c) shows new in
    let same = carried_allocated kept w c (context_of r) now (matched ∙ sym as_long) in
    let counts = count_allocated (carried_of kept) kept.table w c (context_of r) (within_hands w s.lawful worker) now fresh.link in
    record {
      lawful = lawful_alike same (allocate_keeps w c (context_of r) s.lawful worker now fresh.link hand_room);
      counted = λ d. omega (arith, stored_put rows c r new fresh d, s.counted d, counts d, same d);
      bounded = λ d. omega (arith, s.bounded d, same d);
    }

-- ---- what is kept beside the rows

abbrev fresh_row : CtxId → Row → Row
fresh_row c r = record r { generation = c.generation }

fresh_seat : (c : CtxId) (r : Row) → IsFresh r → seat_in (record r { generation = c.generation }) ≡ None
fresh_seat c r fresh = grind (arith, nat_tests, fresh.link)

fresh_life : (c : CtxId) (r : Row) → IsFresh r → life_of (record r { generation = c.generation }) ≡ record { generation = c.generation; is_cleaned = false }
fresh_life c r fresh = ap (λ b. record { generation = c.generation; is_cleaned = b }) fresh.open_yet

-- the row of a slot that is free
record RowFree (rows : List Row) (c : CtxId) : Type 0 where
  pub row : Row
  pub there : slice_get rows c.slot ≡ Some row
  pub over : row.is_cleaned ≡ true
  pub young : row.generation < last_generation
  pub follows : c.generation ≡ row.generation + 1

row_free : (rows : List Row) (c : CtxId) (s : Slot) → slice_get (slots_of rows) c.slot ≡ Some s → is_free s ≡ true
    → c.generation ≡ s.generation + 1 → RowFree rows c
row_free rows c s there free follows =
    let r = slice_get-some rows c.slot (omega (arith, slice_get_within (slots_of rows) c.slot s there, length-map rows slot_of)) in
    let is : slot_of r.0 ≡ s = same_Some (slot_of r.0) s (sym (ap (λ (o : Option Row). option_map slot_of o) r.1)
    ∙ sym (slice_get-map slot_of rows c.slot) ∙ there) in
    record {
      row = r.0;
      there = r.1;
      over = grind (arith, nat_tests, ap is_free is, free);
      young = grind (arith, nat_tests, ap is_free is, free);
      follows = follows ∙ ap (λ (x : Slot). x.generation + 1) (sym is);
    }

module _ (rows rows' : List Row) (c : CtxId) (r : Row) (put : IsPut rows rows' r c) (fresh : IsFresh r) where
  -- the slot is a new one, or one that was free
  put_by : ((c.slot ≡ length rows) × (c.generation ≡ 0) × (rows' ≡ rows ++ (fresh_row c r) ∷ [])) ⊎ (RowFree rows c × (rows' ≡ set rows c.slot (fresh_row c r)))
  put_by =
      elim put.0 [
        | inl first ↦
            let past : c.slot ≡ length rows = first.0 ∙ length-map rows slot_of in
            inl (
              past,
              first.1,
              put.1 ∙ ap (λ (b : Bool). cond b (rows ++ (fresh_row c r) ∷ []) (set rows c.slot (fresh_row c r)))
                  (eq-eqb c.slot (length rows) past),
            )
        | inr again ↦
            let n = row_free rows c again.0 again.1 again.2 again.3 in
            let within = slice_get_within rows c.slot n.row n.there in
            inr (
              n,
              put.1 ∙ ap (λ (b : Bool). cond b (rows ++ (fresh_row c r) ∷ []) (set rows c.slot (fresh_row c r)))
                  (ne_eqb c.slot (length rows) (λ is. omega (arith, within, is))),
            )
      ]

  pub account_put : {tally : Tally} → IsAccount (lives_of rows) tally → IsAccount (lives_of rows') (begun tally)
  account_put {tally} a =
      elim put_by [
        | inl first ↦
            let lives : lives_of rows' ≡ lives_of rows ++ (record { generation = 0; is_cleaned = false }) ∷ [] =
            ap lives_of first.2 ∙ map_push life_of rows (fresh_row c r)
            ∙ ap (λ (l : Life). lives_of rows ++ l ∷ []) (fresh_life c r fresh ∙ ap (λ (g : ℕ). record { generation = g; is_cleaned = false }) first.1) in
            subst (λ l. IsAccount l (begun tally)) (sym lives) (account_new a)
        | inr again ↦
            let n = again.0 in
            let lives = ap lives_of again.1 ∙ map-set life_of rows c.slot (fresh_row c r) ∙ ap (set (lives_of rows) c.slot) (fresh_life c r fresh) in
            let there = slice_get-map life_of rows c.slot ∙ ap (λ (o : Option Row). option_map life_of o) n.there in
            subst (λ l. IsAccount l (begun tally)) (sym lives) (account_again a c.slot (life_of n.row) there c.generation n.over n.young n.follows)
      ]

  -- a new slot is one more
  pub long_first : c.slot ≡ length rows → length rows' ≡ length rows + 1
  long_first past =
      elim put_by [
        | inl first ↦ ap length first.2 ∙ length-append rows (fresh_row c r ∷ [])
        | inr again ↦ absurd (omega (arith, past, slice_get_within rows c.slot again.0.row again.0.there))
      ]

  pub long_again : (c.slot ≡ length rows → ⊥) → length rows' ≡ length rows
  long_again below =
      elim put_by [
        | inl first ↦ absurd (below first.0)
        | inr again ↦ ap length again.1 ∙ length-set rows c.slot (fresh_row c r)
      ]

  -- a new slot has no seat
  pub seats_put_first : {seats seats' : List (Option Seat)} → c.slot ≡ length rows → seats ≡ seats_of rows
      → seats' ≡ seats ++ None ∷ [] → seats' ≡ seats_of rows'
  seats_put_first {seats} past seated more =
      elim put_by [
        | inl first ↦
            more ∙ ap (λ (s : List (Option Seat)). s ++ None ∷ []) seated ∙ ap (λ (o : Option Seat). seats_of rows ++ o ∷ []) (sym (fresh_seat c r fresh))
            ∙ sym (map_push seat_in rows (fresh_row c r)) ∙ sym (ap seats_of first.2)
        | inr again ↦ absurd (omega (arith, past, slice_get_within rows c.slot again.0.row again.0.there))
      ]

  -- one that was free had none
  pub seats_put_again : {seats : List (Option Seat)} → (c.slot ≡ length rows → ⊥) → seats ≡ seats_of rows → seats ≡ seats_of rows'
  seats_put_again below seated =
      elim put_by [
        | inl first ↦ absurd (below first.0)
        | inr again ↦
            let n = again.0 in
            seated ∙ sym (map-set_same seat_in rows c.slot (fresh_row c r) n.row
            (fresh_seat c r fresh ∙ sym (ap seat_in (get_or_from_slice_get rows c.slot n.row n.row n.there) ∙ grind (arith, nat_tests, n.over))))
            ∙ sym (ap seats_of again.1)
      ]
