-- The calls that change one row: the words of their answers, which row it is, and the rows with their seats after it.
use Rattle.std.proofs.Common.{◌≡◌, ◌<◌, ◌-◌, ◌^◌, ◌∙◌}
use Rattle.fm_ctx.proofs.Words.{ℕ, true, List, get_or, Option, is_some, arith, CtxId, Row, Seat, holds, hand_of, set, updated, ContextsKept, carried_of}
use Rattle.fm_ctx.proofs.Words.{count_in, link_at, IsSound, IsIndexed, seat_in, Tally, life_of, lives_of, sym, ap, subst}
use Rattle.fm_ctx.proofs.Words.{slice_get, refl, IsOpenAt, Some, option_map, slice_get-map, cleaned_row, length, length-updated, count_by}
use Rattle.fm_ctx.specs.DueLists.{is_at}
use Rattle.fm_ctx.specs.Generations.{Life, IsAccount, ended}
use Rattle.fm_ctx.proofs.Accounts.{some_living, account_end}
use Rattle.fm_ctx.proofs.Seated.{set_constant}
use Rattle.fm_ctx.proofs.Rows.{map_changed, map_kept}
pub use Rattle.fm_ctx.proofs.Rows.{InRow, opens_at, within_rows, row_carried, row_named, row_read, body_row}
pub use Rattle.fm_ctx.proofs.Sound.{sound_now, present, live_held, live_linked, row_count, row_fits, row_positive, due_absent, due_row, sound_as, dropped_row}
pub use Rattle.fm_ctx.proofs.Sound.{sound_grabbed, sound_released, sound_carried, sound_brought, sound_linked, sound_unlinked, sound_unlinked_into}
pub use Rattle.fm_ctx.proofs.Sound.{sound_rewritten, sound_taken, sound_cleaned}
pub use Rattle.fm_ctx.proofs.Shown.{shown, slots_kept, slots_changed, slots_by, slots_with, carried_kept, carried_by, due_by, due_told}
pub use Rattle.fm_ctx.proofs.Shown.{within_carried, opens_updated, read_updated, updated_twice}
pub use Rattle.fm_ctx.proofs.Seated.{seats_kept, seats_set, seat_within, seat_free, unseated, unlinked_seat, linked_seat}

-- ---- the row

module _ {rows : List Row} {kept now : ContextsKept} {slots : ℕ} {seats : List (Option Seat)} {tally : Tally}
    (indexed : IsIndexed rows kept slots seats tally) (same : kept ≡ now) where
  -- of a context with references
  pub row_live : (c : CtxId) → 0 < count_in (carried_of now) now.table c → InRow rows c
  row_live c live = present (sound_now indexed same) c live

  -- it can have one more
  pub row_raises : (c : CtxId) → 0 < count_in (carried_of now) now.table c → IsOpenAt rows c.slot × ((d : Row) → (get_or rows c.slot d).count < 2 ^ 64 - 1)
  row_raises c live = (opens_at (row_live c live), row_fits (sound_now indexed same) (row_live c live))

  -- of one that a worker holds, or that is linked, or that completions carry
  pub row_held : (w : ℕ) (c : CtxId) → w < 48 → holds (hand_of now.table.hands w) c ≡ true → InRow rows c
  row_held w c worker has = row_live c (live_held (sound_now indexed same) w c worker has)

  pub row_linked : (c : CtxId) → is_some (link_at now.table.slots c) ≡ true → InRow rows c
  row_linked c has = row_live c (live_linked (sound_now indexed same) c has)

  pub row_carrying : (c : CtxId) → 0 < carried_of now c → InRow rows c
  row_carrying c some = row_live c (omega (arith, some))

  -- it isn't due
  pub due_missing : (c : CtxId) → 0 < count_in (carried_of now) now.table c → count_by (is_at c.slot) kept.table.due ≡ 0
  due_missing c live = ap (λ (k : ContextsKept). count_by (is_at c.slot) k.table.due) same ∙ due_absent (sound_now indexed same) c live

-- and may be
pub row_placed : {rows : List Row} {kept : ContextsKept} {slots : ℕ} {seats : List (Option Seat)} {tally : Tally} {c : CtxId}
    → IsIndexed rows kept slots seats tally → InRow rows c → c.slot < slots
row_placed indexed i = omega (arith, indexed.placed, within_rows i)

-- ---- after it was changed

module _ {rows : List Row} {kept : ContextsKept} {slots : ℕ} {seats : List (Option Seat)} {tally : Tally} {c : CtxId}
    (was : IsIndexed rows kept slots seats tally) (i : InRow rows c) where
  -- the life of its slot
  there_now : slice_get (lives_of rows) c.slot ≡ Some (life_of i.row)
  there_now = slice_get-map life_of rows c.slot ∙ ap (λ (o : Option Row). option_map life_of o) i.there

  pub one_living : 0 < tally.living
  one_living = some_living was.account c.slot (life_of i.row) there_now i.open_yet

  account_kept : {rows' : List Row} (g : Row → Row) → rows' ≡ updated g rows c.slot → life_of (g i.row) ≡ life_of i.row → IsAccount (lives_of rows') tally
  account_kept g is same = subst (λ l. IsAccount l tally) (sym (ap lives_of is ∙ map_kept i life_of g same)) was.account

-- as many slots as before
placed_kept : (rows : List Row) {rows' : List Row} {slots slots' : ℕ} (g : Row → Row) (k : ℕ) → slots ≡ length rows
    → rows' ≡ updated g rows k → slots' ≡ slots → slots' ≡ length rows'
placed_kept rows g k placed is fits = fits ∙ placed ∙ sym (ap length is ∙ length-updated g rows k)

module _ {rows rows' : List Row} {kept kept' now : ContextsKept} {slots slots' : ℕ} {seats : List (Option Seat)} {tally : Tally} {c : CtxId}
    (was : IsIndexed rows kept slots seats tally) (i : InRow rows c) where
  -- its seat stays
  pub indexed_kept : (g : Row → Row) → rows' ≡ updated g rows c.slot → kept' ≡ now → slots' ≡ slots → IsSound (updated g rows c.slot) now
      → life_of (g i.row) ≡ life_of i.row → seat_in (g i.row) ≡ seat_in i.row → IsIndexed rows' kept' slots' seats tally
  indexed_kept g is shows fits sound lives same =
      record {
        sound = sound_as is shows sound;
        seated = seats_kept i was.seated g is same;
        placed =
            placed_kept rows g c.slot was.placed is fits;
        account = account_kept was i g is lives;
      }

  -- its context is cleaned
  pub indexed_ended : {tally' : Tally} → rows' ≡ updated cleaned_row rows c.slot → kept' ≡ now → slots' ≡ slots
      → IsSound (updated cleaned_row rows c.slot) now → seat_in (cleaned_row i.row) ≡ seat_in i.row → tally' ≡ ended tally
      → IsIndexed rows' kept' slots' seats tally'
  indexed_ended is shows fits sound same ends =
      let over : Life = record { generation = i.row.generation; is_cleaned = true } in
      let lives : lives_of rows' ≡ set (lives_of rows) c.slot over =
      ap lives_of is ∙ map_changed i life_of cleaned_row (λ l. over) refl ∙ sym (set_constant (lives_of rows) c.slot over) in
      record {
        sound = sound_as is shows sound;
        seated = seats_kept i was.seated cleaned_row is same;
        placed = placed_kept rows cleaned_row c.slot was.placed is fits;
        account = subst (λ (p : List Life × Tally). IsAccount p.0 p.1) (λ k. (sym lives k, sym ends k))
            (account_end was.account c.slot (life_of i.row) (there_now was i) i.open_yet);
      }

  -- or it gets another one
  pub indexed_set : {seats' : List (Option Seat)} (g : Row → Row) (o : Option Seat) → rows' ≡ updated g rows c.slot → kept' ≡ now → slots' ≡ slots
      → IsSound (updated g rows c.slot) now → seats' ≡ set seats c.slot o → life_of (g i.row) ≡ life_of i.row → seat_in (g i.row) ≡ o
      → IsIndexed rows' kept' slots' seats' tally
  indexed_set g o is shows fits sound put lives new =
      record {
        sound = sound_as is shows sound;
        seated = seats_set i was.seated g o is put new;
        placed =
            placed_kept rows g c.slot was.placed is fits;
        account = account_kept was i g is lives;
      }
