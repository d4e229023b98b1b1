-- Rows stand for slots: which row an id names, and what changes of a row make of the slots.
use Rattle.fm_ctx.proofs.Words.{ℕ, zero, suc, Bool, true, false, cond, ltb, List, [], length, map, get_or, slice_get, count_by, Option, Some}
use Rattle.fm_ctx.proofs.Words.{None, is_some, is_none, option_map, refl, sym, ap, ap₂, subst, arith, unwrap_or, position, position_or_len}
use Rattle.fm_ctx.proofs.Words.{length-map, sum_by-cons, true≢false, same_Some, slice_get-map, slice_get_within}
use Rattle.fm_ctx.proofs.Words.{get_or_from_slice_get, CtxId, updated, updated-same, updated-other, Row, one, is_id}
use Rattle.fm_ctx.proofs.Words.{Context, Slot, context_at, carried_of, Object, Owner, links, has_link, id_at, holder, body_at, context_of, IsOpenAt}
use Rattle.fm_ctx.proofs.Words.{slot_of, slots_of, carried_in, row_in, row_at, count_of_row, stored, kept_in, nat_tests}
use Rattle.fm_ctx.proofs.Words.{unwrap_or-slice_get, ContextsKept, born, life_of, lives_of}
use Rattle.std.proofs.Common.{◌≡◌, ◌+◌, ◌<◌, ◌∷◌, ◌∙◌, not, sum_by}
use Rattle.fm_ctx.proofs.Words.{slice_get-some}
use Rattle.fm_ctx.specs.Counting.{cleaned_count, is_open, open_of}
use Rattle.fm_ctx.specs.Generations.{Life, is_living}
use Rattle.fm_ctx.proofs.Bags.{is_id-same}

-- ---- maps over an update

-- a change that says nothing new
pub updated_alike : {X : Type 0} (f g : X → X) (xs : List X) (k : ℕ) → ((x : X) → slice_get xs k ≡ Some x → f x ≡ g x) → updated f xs k ≡ updated g xs k
updated_alike f g [] k same = refl
updated_alike f g (x ∷ xs) zero same = ap (λ y. y ∷ xs) (same x refl)
updated_alike f g (x ∷ xs) (suc k) same = ap (λ ys. x ∷ ys) (updated_alike f g xs k same)

pub updated_nothing : {X : Type 0} (xs : List X) (k : ℕ) → updated (λ y. y) xs k ≡ xs
updated_nothing [] k = refl
updated_nothing (y ∷ xs) zero = refl
updated_nothing (y ∷ xs) (suc k) = ap (λ ys. y ∷ ys) (updated_nothing xs k)

-- what the map sees of it
pub map_updated : {X Y : Type 0} (v : X → Y) (g : X → X) (f : Y → Y) (xs : List X) (k : ℕ) → ((x : X) → slice_get xs k ≡ Some x → v (g x) ≡ f (v x))
    → map v (updated g xs k) ≡ updated f (map v xs) k
map_updated v g f [] k same = refl
map_updated v g f (x ∷ xs) zero same = ap (λ y. y ∷ map v xs) (same x refl)
map_updated v g f (x ∷ xs) (suc k) same = ap (λ ys. v x ∷ ys) (map_updated v g f xs k same)

-- ---- the row that an id names

pub record InRow (rows : List Row) (c : CtxId) : Type 0 where
  pub row : Row
  pub there : slice_get rows c.slot ≡ Some row
  pub named : c.generation ≡ row.generation
  pub open_yet : row.is_cleaned ≡ false

pub in_row : (rows : List Row) (c : CtxId) (r : Row) → row_at rows c ≡ Some r → InRow rows c
unfolding row_at
in_row rows c r is = record { row = r; there = grind (arith, nat_tests); named = grind (arith, nat_tests); open_yet = grind (arith, nat_tests) }

-- the row stands for the context
pub context_at-rows : (rows : List Row) (c : CtxId) → context_at (slots_of rows) c ≡ option_map context_of (row_at rows c)
unfolding context_at row_at
context_at-rows rows c = grind (arith, nat_tests, slice_get-map slot_of rows c.slot)

-- ---- what completions carry

pub carried_row : (rows : List Row) (hands : List (List CtxId)) (due : List CtxId) (cleaning : List (Option CtxId)) (leaks : ℕ)
    (left : List (List CtxId)) (c : CtxId)
    → carried_of (kept_in rows hands due cleaning leaks left) c ≡ unwrap_or (option_map (λ (r : Row). r.carried) (row_at rows c)) 0
unfolding carried_of row_at
carried_row rows hands due cleaning leaks left c =
    grind (arith, nat_tests, context_at-rows rows c, unwrap_or-slice_get (carried_in rows) c.slot 0, slice_get-map (λ (r : Row). r.carried) rows c.slot)

module _ {rows : List Row} {c : CtxId} (i : InRow rows c) where
  pub row_there : row_at rows c ≡ Some i.row
  unfolding row_at
  row_there = grind (arith, nat_tests, i.named, i.there, i.open_yet)

  pub within_rows : c.slot < length rows
  within_rows = slice_get_within rows c.slot i.row i.there

  pub opens_at : IsOpenAt rows c.slot
  opens_at = (i.row, i.there, i.open_yet)

  -- what it is read as, whatever stands past the end
  pub row_read : (d : Row) → get_or rows c.slot d ≡ i.row
  row_read d = get_or_from_slice_get rows c.slot i.row d i.there

  pub context_in_row : context_at (slots_of rows) c ≡ Some (context_of i.row)
  context_in_row = context_at-rows rows c ∙ ap (option_map context_of) row_there

  -- its body is the context's
  pub body_row : {hands : List (List CtxId)} {due : List CtxId} {cleaning : List (Option CtxId)} {leaks : ℕ} {left : List (List CtxId)} {now : ContextsKept}
      → kept_in rows hands due cleaning leaks left ≡ now → (d : Row) → (get_or rows c.slot d).body ≡ body_at now.table.slots c
  body_row same d =
      ap (λ (r : Row). r.body) (row_read d) ∙ sym (ap (λ (o : Option Context). unwrap_or (option_map (λ (x : Context). x.body) o) []) context_in_row)
      ∙ ap (λ (k : ContextsKept). body_at k.table.slots c) same

  -- so is what completions carry
  pub row_carried : {hands : List (List CtxId)} {due : List CtxId} {cleaning : List (Option CtxId)} {leaks : ℕ} {left : List (List CtxId)} {now : ContextsKept}
      → kept_in rows hands due cleaning leaks left ≡ now → (d : Row) → (get_or rows c.slot d).carried ≡ carried_of now c
  row_carried {hands} {due} {cleaning} {leaks} {left} same d =
      ap (λ (o : Option Row). unwrap_or (option_map (λ (r : Row). r.carried) o) 0) (ap (λ r. Some r) (row_read d) ∙ sym row_there)
      ∙ sym (carried_row rows hands due cleaning leaks left c) ∙ ap (λ k. carried_of k c) same

  -- ---- it is changed

  -- the stored counts, from what becomes of that row
  pub stored_changed : (g : Row → Row) (d : CtxId) → (g i.row).generation ≡ i.row.generation
      → stored (updated g rows c.slot) d ≡ cond (is_id d c) (count_of_row (row_in c (g i.row))) (stored rows d)
  unfolding row_at
  stored_changed g d same =
      grind (arith, nat_tests, i.named, same, i.there, updated-same g rows c.slot i.row i.there, updated-other g rows c.slot d.slot, is_id-same d c)

  -- how many have references

  -- what a map of the rows shows
  pub map_changed : {Y : Type 0} (v : Row → Y) (g : Row → Row) (f : Y → Y) → v (g i.row) ≡ f (v i.row)
      → map v (updated g rows c.slot) ≡ updated f (map v rows) c.slot
  map_changed v g f same = map_updated v g f rows c.slot (λ r there. subst (λ q. v (g q) ≡ f (v q)) (same_Some i.row r (sym i.there ∙ there)) same)

  -- and where it shows nothing
  pub map_kept : {Y : Type 0} (v : Row → Y) (g : Row → Row) → v (g i.row) ≡ v i.row → map v (updated g rows c.slot) ≡ map v rows
  map_kept v g same = map_changed v g (λ y. y) same ∙ updated_nothing (map v rows) c.slot

-- ---- which rows there are

-- a context that is there has a row
pub row_of_context : (rows : List Row) (c : CtxId) → is_some (context_at (slots_of rows) c) ≡ true → InRow rows c
row_of_context rows c has = at_row (row_at rows c) refl
  where
    at_row : (o : Option Row) → row_at rows c ≡ o → InRow rows c
    at_row None is = absurd (true≢false (sym has ∙ ap is_some (context_at-rows rows c) ∙ ap (λ (o : Option Row). is_some (option_map context_of o)) is))
    at_row (Some r) is = in_row rows c r is

-- of the state under its other name
pub row_named : {hands : List (List CtxId)} {due : List CtxId} {cleaning : List (Option CtxId)} {leaks : ℕ} {left : List (List CtxId)}
    {now : ContextsKept} (rows : List Row) (c : CtxId)
    → kept_in rows hands due cleaning leaks left ≡ now → is_some (context_at now.table.slots c) ≡ true → InRow rows c
row_named rows c same has = row_of_context rows c (subst (λ (k : ContextsKept). is_some (context_at k.table.slots c) ≡ true) (sym same) has)

-- ---- the holder

position_mapped : {X Y : Type 0} (p : Y → Bool) (f : X → Y) (xs : List X) → position_or_len p (map f xs) ≡ position_or_len (λ x. p (f x)) xs
position_mapped p f [] = refl
position_mapped p f (x ∷ xs) = ap (λ n. cond (not (p (f x))) (1 + n) 0) (position_mapped p f xs)

pub position-map : {X Y : Type 0} (p : Y → Bool) (f : X → Y) (xs : List X) → position p (map f xs) ≡ position (λ x. p (f x)) xs
position-map p f xs = ap₂ (λ k n. cond (ltb k n) (Some k) None) (position_mapped p f xs) (length-map xs f)

pub holder-rows : (rows : List Row) (owner : Owner) (object : Object)
    → holder (slots_of rows) owner object ≡ option_map (id_at (slots_of rows)) (position (λ (r : Row). links owner object (slot_of r).context) rows)
unfolding holder
holder-rows rows owner object = ap (option_map (id_at (slots_of rows))) (position-map (has_link owner object) slot_of rows)

-- the id that a slot was given last
pub id_of_row : (rows : List Row) (k g : ℕ) → k < length rows → ((d : Row) → g ≡ (get_or rows k d).generation)
    → record { slot = k; generation = g } ≡ id_at (slots_of rows) k
id_of_row rows k g within is =
    let r = slice_get-some rows k within in
    let there = slice_get-map slot_of rows k ∙ ap (option_map slot_of) r.1 in
    let generation = is r.0 ∙ ap (λ (q : Row). q.generation) (get_or_from_slice_get rows k r.0 r.0 r.1) in
    ap (λ (g : ℕ). record { slot = k; generation = g }) (generation
    ∙ sym (ap (λ (o : Option Slot). unwrap_or (option_map (λ (s : Slot). s.generation) o) 0) there))

-- ---- what readers are told

pub born_rows : (rows : List Row) → sum_by (λ (l : Life). l.generation + 1) (lives_of rows) ≡ born (slots_of rows)
born_rows [] = refl
born_rows (r ∷ rows) =
    omega (
      arith,
      sum_by-cons (λ (s : Slot). s.generation + 1) (slot_of r) (slots_of rows),
      sum_by-cons (λ (l : Life). l.generation + 1) (life_of r) (lives_of rows),
      born_rows rows,
    )

pub cleaned_rows : (rows : List Row) → cleaned_count (slots_of rows) + count_by is_living (lives_of rows) ≡ born (slots_of rows)
cleaned_rows [] = refl
cleaned_rows (r ∷ rows) =
    let cleaned = sum_by-cons (λ (s : Slot). s.generation + one (is_none s.context)) (slot_of r) (slots_of rows) in
    let all = sum_by-cons (λ (s : Slot). s.generation + 1) (slot_of r) (slots_of rows) in
    grind (arith, nat_tests, cleaned, all, sum_by-cons (λ (l : Life). one (is_living l)) (life_of r) (lives_of rows), cleaned_rows rows)

pub open_rows : (rows : List Row) (owner : Owner) → count_by (λ (r : Row). is_open owner (slot_of r).context) rows ≡ open_of (slots_of rows) owner
open_rows [] owner = refl
open_rows (r ∷ rows) owner =
    omega (
      arith,
      sum_by-cons (λ (s : Slot). one (is_open owner s.context)) (slot_of r) (slots_of rows),
      sum_by-cons (λ (q : Row). one (is_open owner (slot_of q).context)) r rows,
      open_rows rows owner,
    )
