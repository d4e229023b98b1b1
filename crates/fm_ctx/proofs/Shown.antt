-- What is kept, as the fields show it after each change of one row.
use Rattle.std.proofs.Common.{◌≡◌, ◌<◌, ◌∷◌, ◌++◌, ◌∙◌}
use Rattle.fm_ctx.proofs.Words.{ℕ, zero, suc, cond, eqb, List, [], length, get_or, slice_get, Option, Some, option_map, refl, sym, ap, arith}
use Rattle.fm_ctx.proofs.Words.{length-map, CtxId, updated, get_or_from_slice_get, updated-same, Row, Context, Slot, ContextsKept, change_context}
use Rattle.fm_ctx.proofs.Words.{due_after, slot_of, slots_of, carried_in, carried_of, kept_in, context_of, row_with, with_body, IsSound, changed_slot}
use Rattle.fm_ctx.proofs.Words.{nat_tests, life_of, IsOpenAt, false}
use Rattle.fm_ctx.specs.Generations.{Life}
use Rattle.fm_ctx.specs.Cleanup.{due_of, due_reply}
use Rattle.fm_ctx.proofs.Rows.{InRow, within_rows, context_in_row, map_changed, map_kept}
use Rattle.fm_ctx.proofs.Sound.{read_count}

-- equal fields show equal values
pub shown : {rows : List Row} (rows' : List Row) {slots : List Slot} {carried : List ℕ} {hands hands' : List (List CtxId)}
    {due due' : List CtxId} {cleaning cleaning' : List (Option CtxId)} {left : List (List CtxId)} (leaks : ℕ)
    → rows ≡ rows' → slots_of rows' ≡ slots → carried_in rows' ≡ carried → hands ≡ hands' → due ≡ due' → cleaning ≡ cleaning'
    → kept_in rows hands due cleaning leaks left ≡ record {
      table = record {
        slots = slots;
        hands = hands';
        due = due';
        cleaning =
            cleaning';
        leaks = leaks;
        left = left;
      };
      carried = carried;
    }
shown {rows} rows' {slots} {carried} {hands} {hands'} {due} {due'} {cleaning} {cleaning'} {left} leaks is shows carries same_hands same_due same_cleaning =
    let slots_now = ap slots_of is ∙ shows in
    let carried_now = ap carried_in is ∙ carries in
    λ i. record {
      table = record { slots = slots_now i; hands = same_hands i; due = same_due i; cleaning = same_cleaning i; leaks = leaks; left = left };
      carried = carried_now i;
    }

module _ {rows : List Row} {c : CtxId} (i : InRow rows c) where
  -- a change that leaves the context, and what completions carry
  pub slots_kept : (g : Row → Row) → slot_of (g i.row) ≡ slot_of i.row → slots_of (updated g rows c.slot) ≡ slots_of rows
  slots_kept g same = map_kept i slot_of g same

  pub carried_kept : (g : Row → Row) → (g i.row).carried ≡ i.row.carried → carried_in (updated g rows c.slot) ≡ carried_in rows
  carried_kept g same = map_kept i (λ (r : Row). r.carried) g same

  -- one that leaves neither
  pub carried_by : (g : Row → Row) (f : ℕ → ℕ) → (g i.row).carried ≡ f i.row.carried → carried_in (updated g rows c.slot) ≡ updated f (carried_in rows) c.slot
  carried_by g f same = map_changed i (λ (r : Row). r.carried) g f same

  pub slots_changed : (g : Row → Row) (f : Option Context → Option Context) → (g i.row).generation ≡ i.row.generation
      → (slot_of (g i.row)).context ≡ f (Some (context_of i.row))
      → slots_of (updated g rows c.slot) ≡ change_context f (slots_of rows) c
  slots_changed g f named shows = map_changed i slot_of g (changed_slot f c) (grind (arith, nat_tests, i.named, named, shows, i.open_yet))

  pub slots_by : (g : Row → Row) (h : Context → Context) → life_of (g i.row) ≡ life_of i.row → context_of (g i.row) ≡ h (context_of i.row)
      → slots_of (updated g rows c.slot) ≡ change_context (option_map h) (slots_of rows) c
  slots_by g h keeps changes =
      slots_changed g (option_map h) (ap (λ (l : Life). l.generation) keeps)
      (rw (ap (λ (l : Life). l.is_cleaned) keeps ∙ i.open_yet) (ap (λ (x : Context). Some x) changes))

  -- a body that holds other bytes
  pub slots_with : (bytes : List ℕ) → slots_of (updated (row_with bytes) rows c.slot) ≡ change_context (option_map (with_body bytes)) (slots_of rows) c
  slots_with bytes = slots_by (row_with bytes) (with_body bytes) refl refl

  -- the due list after one reference went
  pub due_by : {kept : ContextsKept} {due' : List CtxId} → IsSound rows kept
      → ((d : Row) → due' ≡ cond (eqb (get_or rows c.slot d).count 1) (kept.table.due ++ c ∷ []) kept.table.due)
      → due' ≡ due_after (carried_of kept) kept.table c
  due_by {kept} s after = after i.row ∙ ap (λ k. cond (eqb k 1) (kept.table.due ++ c ∷ []) kept.table.due) (read_count s i i.row)

  pub within_carried : {hands : List (List CtxId)} {due : List CtxId} {cleaning : List (Option CtxId)} {leaks : ℕ}
      {left : List (List CtxId)} {now : ContextsKept}
      → kept_in rows hands due cleaning leaks left ≡ now
      → c.slot < length now.carried
  within_carried same = omega (arith, within_rows i, length-map rows (λ (r : Row). r.carried), ap (λ (k : ContextsKept). length k.carried) same)

  -- what a worker is told of the context that is due longest
  pub due_told : {hands : List (List CtxId)} {due rest : List CtxId} {cleaning : List (Option CtxId)} {leaks : ℕ}
      {left : List (List CtxId)} {now : ContextsKept}
      → due ≡ c ∷ rest → kept_in rows hands due cleaning leaks left ≡ now → Some (due_of c (context_of i.row)) ≡ due_reply now.table
  due_told {hands} {due} {rest} {cleaning} {leaks} {left} first same =
      let told : due_reply (kept_in rows hands due cleaning leaks left).table ≡ Some (due_of c (context_of i.row)) =
      grind (arith, ap (λ (ids : List CtxId). slice_get ids 0) first, context_in_row i) in
      sym told ∙ ap (λ (k : ContextsKept). due_reply k.table) same

  -- a row that was changed is still open, and is read so
  pub opens_updated : {rows' : List Row} (g : Row → Row) → rows' ≡ updated g rows c.slot → (g i.row).is_cleaned ≡ false → IsOpenAt rows' c.slot
  opens_updated g is open_yet = (g i.row, ap (λ (rs : List Row). slice_get rs c.slot) is ∙ updated-same g rows c.slot i.row i.there, open_yet)

  pub read_updated : {rows' : List Row} (g : Row → Row) (d : Row) → rows' ≡ updated g rows c.slot → get_or rows' c.slot d ≡ g i.row
  read_updated g d is =
      ap (λ (rs : List Row). get_or rs c.slot d) is ∙ get_or_from_slice_get (updated g rows c.slot) c.slot (g i.row) d
      (updated-same g rows c.slot i.row i.there)

-- two changes of one row
pub updated_twice : {rows' rows'' : List Row} (f g : Row → Row) (rows : List Row) (k : ℕ) → rows' ≡ updated g rows k
    → rows'' ≡ updated f rows' k → rows'' ≡ updated (λ r. f (g r)) rows k
updated_twice f g rows k first second = second ∙ ap (λ rs. updated f rs k) first ∙ both rows k
  where
    both : (rs : List Row) (k : ℕ) → updated f (updated g rs k) k ≡ updated (λ r. f (g r)) rs k
    both [] k = refl
    both (r ∷ rs) zero = refl
    both (r ∷ rs) (suc k) = ap (λ ts. r ∷ ts) (both rs k)
