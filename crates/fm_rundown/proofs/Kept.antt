-- The rule holds at the beginning and is kept by each step of each seat.
use Rattle.fm_rundown.proofs.Words.{cases_eq, get_or-set_same, get_or-set_other, map-set, map_push, length-map, sum_by_push, some}
use Rattle.fm_rundown.proofs.Words.{get_elem?, length-append, at_map, set_again, VolumeView, SeatView, most_volumes, no_pass, fresh_seat}
use Rattle.fm_rundown.proofs.Words.{volume_of, changed, one_made, Kind, IsCounted, most_seats, GateState, column, IsKept, Tells, IsAt}
use Rattle.std.proofs.Common.{◌≡◌, ◌≢◌, ◌-◌, ◌<◌, ◌≤◌, ◌∷◌, ◌++◌, ℕ, List, [], length, set, replicate, slice_index, refl, ap, sym, ◌∙◌}
use Rattle.std.proofs.Common.{arith, subst, inl, inr, length-set}
use Rattle.std.proofs.lemmas.List.Elements.{All-set, All-push, All-cons, All-nil}
use Rattle.atomic_table.specs.Table.{Allows, Splits, opening, stepped, keeps}
use Rattle.atomic_table.specs.Seated.{TableId}
use Rattle.atomic_table.specs.declared.shared.Seat.{Seat}
use Rattle.fm_rundown.proofs.Lists.{all_found, sum_changed, copies}
use Rattle.fm_rundown.proofs.Counts.{Keeps, closing_is_found, none_at_one, seat_more}

abbrev to_make_of : SeatView → ℕ
to_make_of seat = seat.to_make

abbrev pub IsLong : SeatView → Type 0
IsLong seat = length seat.volumes ≡ most_volumes

-- ---- the beginning ----

counted_at_first : IsCounted 0 (no_pass ∷ [])
counted_at_first = seat_more 0 [] (refl, (λ k d within. absurd (omega (arith, within))), λ seen k d within. absurd (omega (arith, within)))

-- a gate with one seat made and the others to be made
pub begins : (seats : ℕ) → 0 < seats → seats ≤ most_seats → IsKept seats (opening (replicate most_volumes 0) [] (fresh_seat (seats - 1)))
begins seats enough few = record {
  words = refl;
  few = few;
  all_seats = omega (arith, enough);
  volumes = All-cons IsLong (fresh_seat (seats - 1)) [] refl (All-nil IsLong);
  counted = λ v within. subst (λ word. IsCounted word (column v (fresh_seat (seats - 1) ∷ []))) (sym (copies most_volumes 0 v))
      (subst (λ p. IsCounted 0 (p ∷ [])) (sym (copies most_volumes no_pass v)) counted_at_first);
}

-- ---- a step ----

-- what all seats know of a volume, after one seat's change
column_set : (v : ℕ) (views : List SeatView) (id : ℕ) (seat : SeatView) → column v (set views id seat) ≡ set (column v views) id (volume_of v seat)
column_set v views id seat = map-set (volume_of v) views id seat

-- of another volume they know the same
pub column_other : (u v : ℕ) (views : List SeatView) (id : ℕ) (seat : SeatView) (change : VolumeView → VolumeView)
    → get_elem? views id ≡ some seat → u ≢ v
    → column u (set views id (changed v change seat)) ≡ column u views
column_other u v views id seat change at other =
    column_set u views id (changed v change seat)
    ∙ ap (set (column u views) id) (get_or-set_other seat.volumes v u (change (volume_of v seat)) no_pass other)
    ∙ set_again (column u views) id (volume_of u seat) (at_map (volume_of u) views id seat at)

-- of this one they know what the change says
pub column_here : (v : ℕ) (views : List SeatView) (id : ℕ) (seat : SeatView) (change : VolumeView → VolumeView) → v < length seat.volumes
    → column v (set views id (changed v change seat)) ≡ set (column v views) id (change (volume_of v seat))
column_here v views id seat change within =
    column_set v views id (changed v change seat)
    ∙ ap (set (column v views) id) (get_or-set_same seat.volumes v (change (volume_of v seat)) no_pass within)

-- each word counts what is known after the step
counted_after : (kind : Kind) → Keeps kind → (seats : ℕ) (s : GateState) (id v : ℕ) (seat : SeatView) → IsKept seats s
    → get_elem? s.views id ≡ some seat
    → v < most_volumes → kind.may (volume_of v seat) → (u : ℕ) → u < most_volumes
    → IsCounted (slice_index (set s.words v (kind.word (slice_index s.words v))) u)
    (column u (set s.views id (changed v (kind.seen (slice_index s.words v)) seat)))
counted_after kind keeps_count seats s id v seat rule at within may u u_within =
    let word = slice_index s.words v in
    let long = all_found IsLong s.views id seat rule.volumes at in
    let few : length (column v s.views) ≤ 65536 = omega (arith, length-map s.views (volume_of v), rule.all_seats, rule.few) in
    let here = keeps_count word (column v s.views) id (volume_of v seat) few (rule.counted v within) (at_map (volume_of v) s.views id seat at) may in
    let word_here = get_or-set_same s.words v (kind.word word) 0 (omega (arith, rule.words, within)) in
    let seen_here = column_here v s.views id seat (kind.seen word) (omega (arith, long, within)) in
    let after = set s.views id (changed v (kind.seen word) seat) in
    let At : ℕ → Type 0 = λ w. IsCounted (slice_index (set s.words v (kind.word word)) w) (column w after) in
    elim (cases_eq u v) [
      | inl is ↦ subst At (sym is) (subst (λ n. IsCounted n (column v after)) (sym word_here)
          (subst (IsCounted (kind.word word)) (sym seen_here) here))
      | inr other ↦ subst (λ n. IsCounted n (column u after)) (sym (get_or-set_other s.words v u (kind.word word) 0 other))
          (subst (IsCounted (slice_index s.words u)) (sym (column_other u v s.views id seat (kind.seen word) at other)) (rule.counted u u_within))
    ]

-- the rule holds after the step
pub kept_after : (kind : Kind) → Keeps kind → (seats : ℕ) (s : GateState) (id v : ℕ) (seat : SeatView) (slots : List (ℕ × Unit {0})) → IsKept seats s
    → get_elem? s.views id ≡ some seat → v < most_volumes → kind.may (volume_of v seat)
    → IsKept seats (stepped s v (kind.word (slice_index s.words v)) id slots (changed v (kind.seen (slice_index s.words v)) seat) keeps)
kept_after kind keeps_count seats s id v seat slots rule at within may =
    let word = slice_index s.words v in
    let after = changed v (kind.seen word) seat in
    let sum = sum_changed to_make_of s.views id seat after at in
    record {
      words = length-set s.words v (kind.word word) ∙ rule.words;
      few = rule.few;
      all_seats = omega (arith, sum, length-set s.views id after, rule.all_seats);
      volumes = All-set IsLong s.views id after
          (length-set seat.volumes v (kind.seen word (volume_of v seat)) ∙ all_found IsLong s.views id seat rule.volumes at) rule.volumes;
      counted = counted_after kind keeps_count seats s id v seat rule at within may;
    }

-- a seat may take a step of a kind, and learns what it tells
pub allows : (kind : Kind) → Keeps kind → (seats id v : ℕ) (seat : SeatView) (slots : List (ℕ × Unit {0})) → v < most_volumes
    → kind.may (volume_of v seat)
    → Allows (IsKept seats) 0 id (seat, slots) v kind.word (Tells kind v (seat, slots))
allows kind keeps_count seats id v seat slots within may s rule homes at word_fits =
    let word = slice_index s.words v in
    let at_column = at_map (volume_of v) s.views id seat at in
    let counted = rule.counted v within in (
      changed v (kind.seen word) seat,
      keeps,
      tt,
      kept_after kind keeps_count seats s id v seat slots rule at within may,
      (
        refl,
        closing_is_found word (column v s.views) id (volume_of v seat) counted at_column,
        none_at_one word (column v s.views) id (volume_of v seat) counted at_column,
      ),
    )

-- ---- a seat made of another ----

pub splits : (seats id : ℕ) (seat : SeatView) → 0 < seat.to_make → Splits (IsKept seats) id seat (one_made seat) (fresh_seat 0)
splits seats id seat enough s rule at =
    let left = one_made seat in
    let others = set s.views id left in
    let sum = sum_changed to_make_of s.views id seat left at in
    let pushed = sum_by_push to_make_of others (fresh_seat 0) in
    let longer = length-append others (fresh_seat 0 ∷ []) in
    let long = all_found IsLong s.views id seat rule.volumes at in
    record {
      words = rule.words;
      few = rule.few;
      all_seats = omega (arith, sum, enough, pushed, longer, length-set s.views id left, rule.all_seats);
      volumes = All-push IsLong others (fresh_seat 0) (All-set IsLong s.views id left long rule.volumes) refl;
      counted = λ v within.
          let same : column v others ≡ column v s.views =
          column_set v s.views id left ∙ set_again (column v s.views) id (volume_of v seat) (at_map (volume_of v) s.views id seat at) in
          subst (IsCounted (slice_index s.words v))
          (sym (map_push (volume_of v) others (fresh_seat 0) ∙ ap (λ ps. ps ++ volume_of v (fresh_seat 0) ∷ []) same
          ∙ ap (λ p. column v s.views ++ p ∷ []) (copies most_volumes no_pass v)))
          (seat_more (slice_index s.words v) (column v s.views) (rule.counted v within));
    }

-- what a step of a kind asks of the table and of the seat
pub may_step : (kind : Kind) → Keeps kind → (seats : ℕ) (table : TableId) (seat : Seat (Unit {0}) SeatView) (v : ℕ) → IsAt table seat
    → v < most_volumes
    → kind.may (volume_of v seat.me.0)
    → (seat.table_id ≡ table) × (v < table.words) × Allows (IsKept seats) table.slots seat.id seat.me v kind.word (Tells kind v seat.me)
may_step kind keeps_count seats table seat v own within may = (
  own.0,
  omega (arith, own.2.0, within),
  subst (λ slots. Allows (IsKept seats) slots seat.id seat.me v kind.word (Tells kind v seat.me)) (sym own.2.1)
      (allows kind keeps_count seats seat.id v seat.me.0 seat.me.1 within may),
)
