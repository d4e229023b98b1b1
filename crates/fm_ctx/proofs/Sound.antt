-- The rows stand for the contexts after each change of one row.
use Rattle.fm_ctx.proofs.Words.{ℕ, true, cond, List, [], length, get_or, slice_get, Option, Some, None, is_some, refl, sym, ap, subst, arith}
use Rattle.fm_ctx.proofs.Words.{nat_tests, CtxId, updated, Object, Row, one, is_id, holds, hand_of, cleaning_of}
use Rattle.fm_ctx.proofs.Words.{ContextTable, context_at, link_at, count_in, ContextsKept, carried_of, carried_more}
use Rattle.fm_ctx.proofs.Words.{carried_fewer, IsLawful, grabbed, handed_on, released, with_link, linked, unlinked, unlinked_into, IsFree, emptied}
use Rattle.fm_ctx.proofs.Words.{cleaned, with_body, rewritten, kept_in, row_in, row_at, count_of_row, stored, IsSound, raised, lowered}
use Rattle.fm_ctx.proofs.Words.{carried_away, brought_back, linked_row, unlinked_row, cleaned_row, taken_due, taken_of, after_take_due, IsIndexed}
use Rattle.fm_ctx.proofs.Words.{Seat, life_of, Tally, count_by, cases_eq, inl, inr, places, references, sum_by-cons}
use Rattle.fm_ctx.specs.DueLists.{is_at}
use Rattle.fm_ctx.specs.Generations.{Life}
use Rattle.std.proofs.Common.{◌≡◌, ◌-◌, ◌^◌, ◌<◌, ◌≤◌, ◌∷◌, ◌∙◌}
use Rattle.fm_ctx.proofs.Bags.{is_id-same, held_few, held_push, held_without}
use Rattle.fm_ctx.proofs.Slots.{there_changed}
use Rattle.fm_ctx.proofs.Counts.{count_grabbed, count_released, count_held, count_linked_one, count_linked, count_unlinked, links_unlinked, links_kept}
use Rattle.fm_ctx.proofs.Moves.{lawful_by, free_link, within_hands, reference_keeps, carry_keeps, bring_keeps, release_keeps, unlink_keeps, unlink_into_keeps, link_keeps, body_keeps}
use Rattle.fm_ctx.proofs.Lives.{take_due_keeps, due_there, count_cleaning, count_cleaned, cleaned_keeps}
use Rattle.fm_ctx.proofs.Carried.{carried_there, carried_one_more, carried_one_fewer, carried_cleaned, same_slot}
use Rattle.fm_ctx.proofs.Alike.{lawful_alike}
use Rattle.fm_ctx.proofs.Rows.{InRow, in_row, row_of_context, row_there, row_read, stored_changed}

-- what is kept, by the name that callers have for it
pub sound_now : {rows : List Row} {kept now : ContextsKept} {slots : ℕ} {seats : List (Option Seat)} {tally : Tally}
    → IsIndexed rows kept slots seats tally → kept ≡ now → IsSound rows now
sound_now {rows} indexed same = subst (IsSound rows) same indexed.sound

-- ---- what is known of a row

-- a context with references is there
pub context_there : {carried : CtxId → ℕ} {t : ContextTable} (c : CtxId) → IsLawful carried t → 0 < count_in carried t c → is_some (context_at t.slots c) ≡ true
context_there c law live = grind (arith, law.alive c)

-- the equation of what is kept, put in
pub sound_as : {rows rows' : List Row} {kept kept' : ContextsKept} → rows ≡ rows' → kept ≡ kept' → IsSound rows' kept' → IsSound rows kept
sound_as same_rows same_kept = subst (λ (s : List Row × ContextsKept). IsSound s.0 s.1) (λ i. (sym same_rows i, sym same_kept i))

-- a context without references in the slot of one that has some
not_due : {carried : CtxId → ℕ} {t : ContextTable} (c : CtxId) → IsLawful carried t → 0 < count_in carried t c → (d : CtxId)
    → 0 < references t.due d → d.slot ≡ c.slot → ⊥
unfolding places
not_due {carried} {t} c law live d some is =
    let waits : (is_some (context_at t.slots d) ≡ true) × (count_in carried t d ≡ 0) = grind (arith, nat_tests, law.waits d) in
    let same = is_id-same d c (same_slot t.slots c d (context_there c law live) waits.0 is) in
    omega (arith, live, waits.1, ap (count_in carried t) same)

absent_by : (ids : List CtxId) (slot : ℕ) → ((d : CtxId) → 0 < references ids d → d.slot ≡ slot → ⊥) → count_by (is_at slot) ids ≡ 0
unfolding references
absent_by [] slot none = refl
absent_by (c ∷ ids) slot none =
    let by : CtxId → CtxId → ℕ = λ d e. one (is_id d e) in
    let at : CtxId → ℕ = λ d. one (is_at slot d) in
    let rest = absent_by ids slot (λ d some is. none d (omega (arith, some, sum_by-cons (by d) c ids)) is) in
    let here : c.slot ≡ slot → ⊥ = λ is. none c (grind (arith, nat_tests, sum_by-cons (by c) c ids)) is in
    elim (cases_eq c.slot slot) [
      | inl is ↦ absurd (here is)
      | inr apart ↦ grind (arith, nat_tests, sum_by-cons at c ids, rest, apart)
    ]

abbrev pub dropped_row : Row → Row
dropped_row r = lowered (unlinked_row r)

module _ {rows : List Row} {kept : ContextsKept} (s : IsSound rows kept) where
  -- and has a row
  pub present : (c : CtxId) → 0 < count_in (carried_of kept) kept.table c → InRow rows c
  present c live = at_row (row_at rows c) refl
    where
      at_row : (o : Option Row) → row_at rows c ≡ o → InRow rows c
      at_row None is = absurd (omega (arith, live, s.counted c, ap count_of_row is))
      at_row (Some r) is = in_row rows c r is

  -- what a worker holds has references, so has what is linked
  pub live_held : (w : ℕ) (c : CtxId) → w < 48 → holds (hand_of kept.table.hands w) c ≡ true → 0 < count_in (carried_of kept) kept.table c
  live_held w c worker has = count_held (carried_of kept) kept.table w c (within_hands w s.lawful worker) has

  pub live_linked : (c : CtxId) → is_some (link_at kept.table.slots c) ≡ true → 0 < count_in (carried_of kept) kept.table c
  live_linked c has = count_linked_one (carried_of kept) kept.table c has

  pub row_count : {c : CtxId} (i : InRow rows c) → i.row.count ≡ count_in (carried_of kept) kept.table c
  row_count {c} i = sym (ap count_of_row (row_there i)) ∙ s.counted c

  -- so does what the row is read as
  pub read_count : {c : CtxId} (i : InRow rows c) (d : Row) → (get_or rows c.slot d).count ≡ count_in (carried_of kept) kept.table c
  read_count i d = ap (λ (r : Row). r.count) (row_read i d) ∙ row_count i

  pub row_positive : {c : CtxId} (i : InRow rows c) → 0 < count_in (carried_of kept) kept.table c → (d : Row) → 0 < (get_or rows c.slot d).count
  row_positive i live d = omega (arith, read_count i d, live)

  -- no count comes near to the end of its type
  pub row_fits : {c : CtxId} (i : InRow rows c) (d : Row) → (get_or rows c.slot d).count < 2 ^ 64 - 1
  row_fits {c} i d =
      grind (arith, nat_tests, read_count i d, s.bounded c, held_few kept.table.hands c s.lawful.workers s.lawful.small)

  -- what has references isn't due
  pub due_absent : (c : CtxId) → 0 < count_in (carried_of kept) kept.table c → count_by (is_at c.slot) kept.table.due ≡ 0
  due_absent c live = absent_by kept.table.due c.slot (λ d some is. not_due c s.lawful live d some is)

  -- ---- a change of one row

  sound_by : (g : Row → Row) {c : CtxId} (i : InRow rows c) (kept' : ContextsKept) → (g i.row).generation ≡ i.row.generation
      → IsLawful (carried_of kept') kept'.table
      → ((d : CtxId) → cond (is_id d c) (count_of_row (row_in c (g i.row))) (stored rows d) ≡ count_in (carried_of kept') kept'.table d)
      → ((d : CtxId) → carried_of kept' d ≤ 2 ^ 32)
      → IsSound (updated g rows c.slot) kept'
  sound_by g i kept' named law counted bounded = record {
    lawful = law;
    counted = λ d. stored_changed i g d named ∙ counted d;
    bounded = bounded;
  }

  -- one that leaves what is carried
  sound_step : (g : Row → Row) {c : CtxId} (i : InRow rows c) (t' : ContextTable) → (g i.row).generation ≡ i.row.generation
      → ((d : CtxId) → is_some (context_at t'.slots d) ≡ is_some (context_at kept.table.slots d)) → IsLawful (carried_of kept) t'
      → ((d : CtxId) → cond (is_id d c) (count_of_row (row_in c (g i.row))) (stored rows d) ≡ count_in (carried_of kept) t' d)
      → IsSound (updated g rows c.slot) (record kept { table = t' })
  sound_step g i t' named there law counted =
      let same = carried_there kept t' there in
      sound_by g i (record kept { table = t' }) named (lawful_alike same law) (λ d. omega (arith, counted d, same d)) (λ d. omega (arith, s.bounded d, same d))

  -- ---- events

  -- one more reference
  pub sound_grabbed : (w : ℕ) (c : CtxId) → w < 48 → 0 < count_in (carried_of kept) kept.table c → length (hand_of kept.table.hands w) < 16
      → IsSound (updated raised rows c.slot) (record kept { table = grabbed kept.table w c })
  sound_grabbed w c worker live room =
      let i = present c live in
      let count = row_count i in
      sound_step raised i (grabbed kept.table w c) refl (λ d. refl) (reference_keeps w c s.lawful worker live room)
      (λ d. grind (arith, nat_tests, s.counted d, count_grabbed (carried_of kept) kept.table w c (within_hands w s.lawful worker) d, is_id-same d c))

  -- a reference goes; where it was the last one it needs a place among the due
  pub sound_released : (w : ℕ) (c : CtxId) → w < 48 → holds (hand_of kept.table.hands w) c ≡ true
      → IsSound (updated lowered rows c.slot) (record kept { table = released (carried_of kept) kept.table w c })
  sound_released w c worker has =
      let within = within_hands w s.lawful worker in
      let live = live_held w c worker has in
      let i = present c live in
      let count = row_count i in
      sound_step lowered i (released (carried_of kept) kept.table w c) refl (λ d. refl) (release_keeps w c s.lawful worker has)
      (λ d. grind (arith, nat_tests, s.counted d, count_released (carried_of kept) kept.table w c within has d, is_id-same d c))

  -- a completion takes a reference along, or brings it back
  pub sound_carried : (w : ℕ) (c : CtxId) → w < 48 → holds (hand_of kept.table.hands w) c ≡ true → c.slot < length kept.carried → carried_of kept c < 2 ^ 32
      → IsSound (updated carried_away rows c.slot) (record { table = handed_on kept.table w c; carried = carried_more kept.carried c })
  sound_carried w c worker has in_list few =
      let within = within_hands w s.lawful worker in
      let live = live_held w c worker has in
      let i = present c live in
      let count = row_count i in
      let kept' : ContextsKept = record { table = handed_on kept.table w c; carried = carried_more kept.carried c } in
      let more = carried_one_more kept (handed_on kept.table w c) c (λ d. refl) (context_there c s.lawful live) in_list in
      sound_by carried_away i kept' refl (carry_keeps (carried_of kept') w c s.lawful worker has more)
      (λ d. grind (arith, nat_tests, s.counted d, held_without kept.table.hands w c within has d, more d, is_id-same d c))
      (λ d. grind (arith, nat_tests, more d, s.bounded d, is_id-same d c))

  pub sound_brought : (w : ℕ) (c : CtxId) → w < 48 → 0 < carried_of kept c → c.slot < length kept.carried → length (hand_of kept.table.hands w) < 16
      → IsSound (updated brought_back rows c.slot) (record { table = grabbed kept.table w c; carried = carried_fewer kept.carried c })
  sound_brought w c worker some in_list room =
      let i = present c (omega (arith, some)) in
      let count = row_count i in
      let kept' : ContextsKept = record { table = grabbed kept.table w c; carried = carried_fewer kept.carried c } in
      let fewer = carried_one_fewer kept (grabbed kept.table w c) c (λ d. refl) some in_list in
      sound_by brought_back i kept' refl (bring_keeps (carried_of kept') w c s.lawful worker fewer room)
      (λ d. grind (arith, nat_tests, s.counted d, held_push kept.table.hands w c (within_hands w s.lawful worker) d, fewer d, is_id-same d c))
      (λ d. omega (arith, s.bounded d, fewer d))

  -- a link is made, or goes, with its reference or without
  pub sound_linked : (c : CtxId) (object : Object) → 0 < count_in (carried_of kept) kept.table c → IsFree kept.table c object
      → IsSound (updated (linked_row object) rows c.slot) (record kept { table = linked kept.table c object })
  sound_linked c object live is_free =
      let i = present c live in
      let count = row_count i in
      let free = free_link c object s.lawful live is_free in
      let counts = count_linked (carried_of kept) kept.table c free.context object free.there free.bare in
      sound_step (linked_row object) i (linked kept.table c object) refl (there_changed (with_link (Some object)) kept.table.slots c)
      (link_keeps c object s.lawful live is_free)
      (λ d. grind (arith, nat_tests, s.counted d, counts d, is_id-same d c))

  pub sound_unlinked : (c : CtxId) → is_some (link_at kept.table.slots c) ≡ true
      → IsSound (updated dropped_row rows c.slot) (record kept { table = unlinked (carried_of kept) kept.table c })
  sound_unlinked c has =
      let live = live_linked c has in
      let i = present c live in
      let count = row_count i in
      sound_step dropped_row i (unlinked (carried_of kept) kept.table c) refl (there_changed (with_link None) kept.table.slots c) (unlink_keeps c s.lawful has)
      (λ d. grind (arith, nat_tests, s.counted d, count_unlinked (carried_of kept) kept.table c has d, is_id-same d c))

  pub sound_unlinked_into : (w : ℕ) (c : CtxId) → w < 48 → is_some (link_at kept.table.slots c) ≡ true → length (hand_of kept.table.hands w) < 16
      → IsSound (updated unlinked_row rows c.slot) (record kept { table = unlinked_into kept.table w c })
  sound_unlinked_into w c worker has room =
      let i = present c (live_linked c has) in
      let count = row_count i in
      let more = held_push kept.table.hands w c (within_hands w s.lawful worker) in
      sound_step unlinked_row i (unlinked_into kept.table w c) refl (there_changed (with_link None) kept.table.slots c)
      (unlink_into_keeps w c s.lawful worker has room)
      (λ d. grind (arith, nat_tests, s.counted d, links_unlinked kept.table.slots c has d, more d, is_id-same d c))

  -- the body changes
  pub sound_rewritten : (g : Row → Row) {c : CtxId} (i : InRow rows c) (bytes : List ℕ) → life_of (g i.row) ≡ life_of i.row
      → (g i.row).count ≡ i.row.count
      → IsSound (updated g rows c.slot) (record kept { table = rewritten kept.table c bytes })
  sound_rewritten g {c} i bytes keeps same =
      let count = row_count i in
      let open_yet = ap (λ (l : Life). l.is_cleaned) keeps in
      sound_step g i (rewritten kept.table c bytes) (ap (λ (l : Life). l.generation) keeps)
      (there_changed (with_body bytes) kept.table.slots c) (body_keeps c bytes s.lawful)
      (λ d. grind (arith, nat_tests, s.counted d, links_kept (with_body bytes) kept.table.slots c (λ x. refl) d, is_id-same d c))

  -- a worker cleans up
  pub sound_taken : (g : Row → Row) (w : ℕ) {c : CtxId} (i : InRow rows c) → w < 48 → slice_get kept.table.due 0 ≡ Some c
      → cleaning_of kept.table.cleaning w ≡ None
      → life_of (g i.row) ≡ life_of i.row → (g i.row).count ≡ i.row.count
      → IsSound (updated g rows c.slot) (record kept { table = after_take_due kept.table w })
  sound_taken g w {c} i worker first idle keeps same =
      let count = row_count i in
      let open_yet = ap (λ (l : Life). l.is_cleaned) keeps in
      subst (λ o. IsSound (updated g rows c.slot) (record kept { table = taken_of kept.table w o })) (sym first)
      (sound_step g i (taken_due kept.table w c) (ap (λ (l : Life). l.generation) keeps) (there_changed emptied kept.table.slots c)
      (take_due_keeps w c s.lawful worker first idle)
      (λ d. grind (arith, nat_tests, s.counted d, links_kept emptied kept.table.slots c (λ x. refl) d, is_id-same d c)))

  pub sound_cleaned : (w : ℕ) {c : CtxId} (i : InRow rows c) → w < 48 → cleaning_of kept.table.cleaning w ≡ Some c
      → IsSound (updated cleaned_row rows c.slot) (record kept { table = cleaned kept.table w c })
  sound_cleaned w {c} i worker busy =
      let none = (count_cleaning w c s.lawful worker busy).1 in
      let same = carried_cleaned kept w c (omega (arith, none)) in
      sound_by cleaned_row i (record kept { table = cleaned kept.table w c }) refl (lawful_alike same (cleaned_keeps w c s.lawful worker busy))
      (λ d. grind (arith, nat_tests, s.counted d, count_cleaned w c s.lawful worker busy d, same d, is_id-same d c))
      (λ d. omega (arith, s.bounded d, same d))

  -- the number of leaks, and what was left behind, stand beside the contexts
  pub sound_beside : (n : ℕ) (left : List (List CtxId)) → length left ≡ length kept.table.left
      → IsSound rows (record kept { table = record kept.table { leaks = n; left = left } })
  sound_beside n left as_long =
      let law = s.lawful in
      let same = carried_there kept (record kept.table { leaks = n; left = left }) (λ d. refl) in
      record {
        lawful = lawful_alike same (lawful_by law (law.once, law.few) (law.workers, law.small) refl as_long (λ d was. was));
        counted = λ d. omega (arith, s.counted d, same d);
        bounded = λ d. omega (arith, s.bounded d, same d);
      }

-- the row of the context that is due longest
pub due_row : {rows : List Row} {hands : List (List CtxId)} {due rest : List CtxId} {cleaning : List (Option CtxId)} {leaks : ℕ}
    {left : List (List CtxId)} (c : CtxId)
    → IsSound rows (kept_in rows hands due cleaning leaks left) → due ≡ c ∷ rest → InRow rows c
due_row {rows} c s first = row_of_context rows c (due_there c s.lawful (ap (λ (ids : List CtxId). slice_get ids 0) first))
