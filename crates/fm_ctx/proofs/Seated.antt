-- The seats of rows, and what changes of a row make of them.
use Rattle.std.proofs.Common.{◌≡◌, ◌<◌, ◌≤◌, ◌∷◌, ◌∙◌}
use Rattle.fm_ctx.proofs.Words.{ℕ, zero, suc, List, [], length, set, get_or, position, count_by, Option, Some, None, is_some, option_map, refl, sym}
use Rattle.fm_ctx.proofs.Words.{ap, arith, length-map, sum_by-cons, slice_get-map, get_or_from_slice_get, CtxId, updated, Object, Owner, Row, Seat}
use Rattle.fm_ctx.proofs.Words.{one, links, has_link, holder, Slot, context_at, link_count, is_seat, slot_of, slots_of, linked_row, unlinked_row}
use Rattle.fm_ctx.proofs.Words.{id_at, nat_tests, ContextsKept, kept_in, Context, seat_in, seats_of}
use Rattle.fm_ctx.proofs.Rows.{InRow, within_rows, context_in_row, map_changed, map_kept, position-map, holder-rows}

-- ---- who is linked, by seats

abbrev seat_of : Owner → Object → Seat
seat_of owner object = record { owner = owner; object = object }

seat_links : (owner : Owner) (object : Object) (r : Row) → has_link owner object (slot_of r) ≡ is_seat (seat_of owner object) (seat_in r)
seat_links owner object r = grind (arith, nat_tests)

seats_counted : (owner : Owner) (object : Object) (rows : List Row)
    → count_by (is_seat (seat_of owner object)) (seats_of rows) ≡ count_by (has_link owner object) (slots_of rows)
seats_counted owner object [] = refl
seats_counted owner object (r ∷ rows) =
    let by_seat : Option Seat → ℕ = λ o. one (is_seat (seat_of owner object) o) in
    let by_link : Slot → ℕ = λ s. one (has_link owner object s) in
    let here : by_link (slot_of r) ≡ by_seat (seat_in r) = ap one (seat_links owner object r) in
    omega (arith, sum_by-cons by_seat (seat_in r) (seats_of rows), sum_by-cons by_link (slot_of r) (slots_of rows), here, seats_counted owner object rows)

-- no seat is taken twice
pub seat_once : {seats : List (Option Seat)} (owner : Owner) (object : Object) (rows : List Row) → seats ≡ seats_of rows
    → count_by (has_link owner object) (slots_of rows) ≤ 1
    → count_by (is_seat (seat_of owner object)) seats ≤ 1
seat_once owner object rows seated once = omega (arith, ap (count_by (is_seat (seat_of owner object))) seated, seats_counted owner object rows, once)

-- who has the seat is linked there
pub holder_seat : {seats : List (Option Seat)} (owner : Owner) (object : Object) (rows : List Row) (o : Option ℕ) → seats ≡ seats_of rows
    → o ≡ position (is_seat (seat_of owner object)) seats
    → option_map (id_at (slots_of rows)) o ≡ holder (slots_of rows) owner object
holder_seat {seats} owner object rows o seated is =
    let test = is_seat (seat_of owner object) in
    let alike : position (λ (r : Row). links owner object (slot_of r).context) rows ≡ position (λ (r : Row). test (seat_in r)) rows =
    λ i. position (λ (r : Row). seat_links owner object r i) rows in
    ap (option_map (id_at (slots_of rows))) (is ∙ ap (position test) seated ∙ position-map test seat_in rows ∙ sym alike) ∙ sym (holder-rows rows owner object)

-- a context with no link has no seat
pub unseated : {rows : List Row} {c : CtxId} (i : InRow rows c) → link_count (context_at (slots_of rows) c) ≡ 0 → seat_in i.row ≡ None
unseated i none = grind (arith, nat_tests, context_in_row i, i.open_yet)

-- ---- one row

pub set_constant : {X : Type 0} (xs : List X) (k : ℕ) (x : X) → set xs k x ≡ updated (λ y. x) xs k
set_constant [] k x = refl
set_constant (y ∷ xs) zero x = refl
set_constant (y ∷ xs) (suc k) x = ap (λ ys. y ∷ ys) (set_constant xs k x)

module _ {rows : List Row} {seats : List (Option Seat)} {c : CtxId} (i : InRow rows c) (seated : seats ≡ seats_of rows) where
  -- it is changed, and its seat stays
  pub seats_kept : {rows' : List Row} (g : Row → Row) → rows' ≡ updated g rows c.slot → seat_in (g i.row) ≡ seat_in i.row → seats ≡ seats_of rows'
  seats_kept g is same = seated ∙ sym (ap seats_of is ∙ map_kept i seat_in g same)

  -- or it gets another one
  pub seats_set : {rows' : List Row} {seats' : List (Option Seat)} (g : Row → Row) (o : Option Seat) → rows' ≡ updated g rows c.slot
      → seats' ≡ set seats c.slot o → seat_in (g i.row) ≡ o
      → seats' ≡ seats_of rows'
  seats_set g o is put new =
      put ∙ ap (λ (s : List (Option Seat)). set s c.slot o) seated ∙ set_constant (seats_of rows) c.slot o
      ∙ sym (ap seats_of is ∙ map_changed i seat_in g (λ y. o) new)

  pub seat_within : c.slot < length seats
  seat_within = omega (arith, ap (λ (s : List (Option Seat)). length s) seated, length-map rows seat_in, within_rows i)

  pub seat_free : {hands : List (List CtxId)} {due : List CtxId} {cleaning : List (Option CtxId)} {leaks : ℕ}
      {left : List (List CtxId)} {now : ContextsKept} {x : Context}
      → kept_in rows hands due cleaning leaks left ≡ now → context_at now.table.slots c ≡ Some x → x.link ≡ None → get_or seats c.slot None ≡ None
  seat_free same there bare =
      let none : link_count (context_at (slots_of rows) c) ≡ 0 =
      ap (λ (k : ContextsKept). link_count (context_at k.table.slots c)) same ∙ ap link_count there ∙ ap (λ (o : Option Object). one (is_some o)) bare in
      ap (λ (s : List (Option Seat)). get_or s c.slot None) seated
      ∙ get_or_from_slice_get (seats_of rows) c.slot (seat_in i.row) None (slice_get-map seat_in rows c.slot ∙ ap (option_map seat_in) i.there)
      ∙ unseated i none

pub unlinked_seat : (r : Row) → seat_in (unlinked_row r) ≡ None
unlinked_seat r = grind (arith, nat_tests)

pub linked_seat : {rows : List Row} {c : CtxId} (i : InRow rows c) (object : Object) (owner : Owner) → owner ≡ i.row.owner
    → seat_in (linked_row object i.row) ≡ Some (seat_of owner object)
linked_seat i object owner is = grind (arith, nat_tests, i.open_yet, is)
