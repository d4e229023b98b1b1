-- What becomes of the orders of the volumes when an instance comes, changes or goes.
use Rattle.fm_stack.proofs.Words.{VolumeId, Instance, StackWorld, Filter, Seat, IsStack, IsPlaced, IsKept, IsOrder, IsAbove, IsSeated}
use Rattle.fm_stack.proofs.Words.{is_live_on, is_detached, is_lower, same_altitude, registration_in, is_under, place_under, seats_at}
use Rattle.fm_stack.proofs.Words.{all_at, all_pairs_from_slice_get, cases_eq, count_by-push, count_by-updated}
use Rattle.fm_stack.proofs.Words.{slice_get-kept, slice_get-push, slice_get-push_cases, updated-other, updated-same, updated_cases}
use Rattle.fm_stack.proofs.Words.{seat_passes, ne_eqb, lt-leb, le-leb}
use Rattle.fm_stack.proofs.Places.{insert_cases, insert_keeps, inserted_there, all_pairs_insert, remove_cases, remove_keeps, place_found}
use Rattle.fm_stack.proofs.Orders.{lower_behind, sits_once, under_divides}
use Rattle.fm_stack.proofs.Heights.{lower_or_above}
use Rattle.std.proofs.Common.{◌≡◌, ◌≢◌, ◌∙◌, ◌<◌, ◌≤◌, ◌&&◌, ℕ, suc, Bool, true, false, not, cond, List, [], ◌∷◌, ◌++◌, length, AllPairs}
use Rattle.std.proofs.Common.{slice_get, position, unwrap_or, Option, Some, None, count_by, refl, sym, ap, subst, arith, inl, inr}
use Rattle.std.specs.List.{insert, remove}
use Rattle.std.proofs.lemmas.Bool.{cases_order}
use Rattle.std.proofs.lemmas.List.Edits.{length-insert, length-remove}
use Rattle.std.proofs.lemmas.List.Quantifiers.{all_pairs_remove}
use Rattle.std.proofs.lemmas.List.Sums.{sum_by-cons}
use Rattle.std.proofs.lemmas.Option.{same_Some, none-some, slice_get_within}
use Rattle.fm_types.specs.Lists.{updated}
use Rattle.fm_types.proofs.Lists.{slice_get-some}

-- ---- nobody ----

none_counted : (p : Instance → Bool) (rows : List Instance) → ((k : ℕ) (row : Instance) → slice_get rows k ≡ Some row → p row ≡ false) → count_by p rows ≡ 0
none_counted p [] none = refl
none_counted p (row ∷ rows) none =
    let rest = none_counted p rows (λ k x there. none (suc k) x there) in
    rw (sum_by-cons (λ x. cond (p x) 1 0) row rows, none 0 row refl) (omega (arith, rest))

-- on a volume that isn't mounted nobody is
pub nobody : (s : StackWorld) (v : VolumeId) → IsStack s → length s.volumes ≤ v.0 → IsOrder s.filters s.instances v []
nobody s v sound beyond =
    let none : (k : ℕ) (row : Instance) → slice_get s.instances k ≡ Some row → is_live_on v row ≡ false = λ k row there.
    let within = (all_at (IsPlaced s) s.instances k row sound.placed there).volume in
    ap (λ b. b && not (is_detached row.phase)) (ne_eqb row.volume.0 v.0 (λ is. omega (arith, within, is, beyond))) in
    record {
      seated = λ p seat there. absurd (none-some seat there);
      whole = λ k row there live. let wrong : false ≡ true = sym (none k row there) ∙ live in absurd (cc);
      falls = λ i j d below within. absurd (omega (arith, within));
      count = sym (none_counted (is_live_on v) s.instances none);
    }

order_or_nobody : (s : StackWorld) (orders : List (List Seat)) (v : VolumeId) → IsKept s orders → (seats : Option (List Seat)) → slice_get orders v.0 ≡ seats
    → IsOrder s.filters s.instances v (unwrap_or seats [])
order_or_nobody s orders v kept None none =
    nobody s v kept.stack (elim (cases_order v.0 (length orders)) [
      | inl is ↦ omega (arith, is, kept.each)
      | inr (inl below) ↦ let there = slice_get-some orders v.0 below in absurd (none-some there.0 (sym none ∙ there.1))
      | inr (inr above) ↦ omega (arith, above, kept.each)
    ])
order_or_nobody s orders v kept (Some seats) some = kept.sorted v.0 seats some

pub order_at : (s : StackWorld) (orders : List (List Seat)) (v : VolumeId) → IsKept s orders → IsOrder s.filters s.instances v (seats_at orders v.0)
order_at s orders v kept = order_or_nobody s orders v kept (slice_get orders v.0) refl

-- ---- seats that stay ----

-- a stands higher than b, by the altitudes of their instances
is_above : (rows : List Instance) (a b : Seat) (x y : Instance) → slice_get rows a.instance.0 ≡ Some x → slice_get rows b.instance.0 ≡ Some y
    → is_lower y.altitude x.altitude ≡ true → IsAbove rows a b
is_above rows a b x y front back lower = rw (front, back) lower

-- the instances of the volume are there still, at their altitudes
abbrev StayInPlace : List Instance → List Instance → VolumeId → Type 0
StayInPlace rows others v = (k : ℕ) (row : Instance) → slice_get rows k ≡ Some row → is_live_on v row ≡ true
    → (after : Instance) × (slice_get others k ≡ Some after) × (after.altitude ≡ row.altitude)

falls_still : {filters : List Filter} {rows : List Instance} {v : VolumeId} {seats : List Seat} → IsOrder filters rows v seats → (others : List Instance)
    → StayInPlace rows others v → AllPairs (IsAbove others) seats
falls_still {rows = rows} {seats = seats} order others stay =
    all_pairs_from_slice_get (IsAbove others) seats (λ i j a b below first second.
    let front = order.seated i a first in
    let back = order.seated j b second in
    let x = stay a.instance.0 front.row front.there front.live in
    let y = stay b.instance.0 back.row back.there back.live in
    let lower = lower_behind order i j a b front.row back.row below first second front.there back.there in
    is_above others a b x.0 y.0 x.1 y.1 (rw (x.2, y.2) lower))

-- nothing that the order of the volume says has changed
pub record Stays (filters more : List Filter) (rows others : List Instance) (v : VolumeId) : Type 0 where
  pub kept : (k : ℕ) (row : Instance) → slice_get rows k ≡ Some row → is_live_on v row ≡ true
      → (after : Instance) × (slice_get others k ≡ Some after) × (after.altitude ≡ row.altitude) × (is_live_on v after ≡ true)
      × (registration_in more after.filter ≡ registration_in filters row.filter)
  pub fresh : (k : ℕ) (after : Instance) → slice_get others k ≡ Some after → is_live_on v after ≡ true
      → (row : Instance) × (slice_get rows k ≡ Some row) × (is_live_on v row ≡ true)
  pub count : count_by (is_live_on v) others ≡ count_by (is_live_on v) rows

pub order_stays : (filters more : List Filter) (rows others : List Instance) (v : VolumeId) (seats : List Seat) → Stays filters more rows others v
    → IsOrder filters rows v seats → IsOrder more others v seats
order_stays filters more rows others v seats stays order = record {
  seated = λ p seat there.
      let own = order.seated p seat there in
      let after = stays.kept seat.instance.0 own.row own.there own.live in
      record { row = after.0; there = after.1; live = after.3; registered = after.4 ∙ own.registered };
  whole = λ k after there live. let old = stays.fresh k after there live in order.whole k old.0 old.1 old.2;
  falls = falls_still order others (λ k row there live. let after = stays.kept k row there live in (after.0, after.1, after.2));
  count = order.count ∙ sym stays.count;
}

-- an instance changes, and none of what an order says of it
pub changed_stays : (filters : List Filter) (rows : List Instance) (v : VolumeId) (change : Instance → Instance) (at : ℕ) (row : Instance)
    → slice_get rows at ≡ Some row → is_live_on v (change row) ≡ is_live_on v row → (change row).altitude ≡ row.altitude → (change row).filter ≡ row.filter
    → Stays filters filters rows (updated change rows at) v
changed_stays filters rows v change at row there same level own =
    let counts = count_by-updated (is_live_on v) change rows at row there in
    let once : ◌≡◌ {A = ℕ} (cond (is_live_on v (change row)) 1 0) (cond (is_live_on v row) 1 0) = ap (λ b. cond b 1 0) same in
    record {
      kept = λ k old found live. elim (cases_eq k at) [
        | inl is ↦
            let is_row : old ≡ row = same_Some old row (sym found ∙ subst (λ n. slice_get rows n ≡ Some row) (sym is) there) in
            let after : slice_get (updated change rows at) k ≡ Some (change row) =
            subst (λ n. slice_get (updated change rows at) n ≡ Some (change row)) (sym is) (updated-same change rows at row there) in
            rw is_row (change row, after, level, same ∙ subst (λ (x : Instance). is_live_on v x ≡ true) is_row live, ap (registration_in filters) own)
        | inr other ↦ (old, updated-other change rows at k other ∙ found, refl, live, refl)
      ];
      fresh = λ k after found live. elim (updated_cases change rows at k after found) [
        | inl old ↦ (after, old.1, live)
        | inr made ↦
            let is_row : made.1.0 ≡ row = same_Some made.1.0 row (sym made.1.1 ∙ there) in
            let is_after : after ≡ change row = made.1.2 ∙ ap change is_row in
            (row, subst (λ n. slice_get rows n ≡ Some row) (sym made.0) there, sym same ∙ subst (λ (x : Instance). is_live_on v x ≡ true) is_after live)
      ];
      count = omega (arith, counts, once);
    }

-- an instance comes to another volume
pub pushed_stays : (filters : List Filter) (rows : List Instance) (v : VolumeId) (new : Instance) → is_live_on v new ≡ false
    → Stays filters filters rows (rows ++ new ∷ []) v
pushed_stays filters rows v new elsewhere =
    let counts = count_by-push (is_live_on v) rows new in
    let none : ◌≡◌ {A = ℕ} (cond (is_live_on v new) 1 0) 0 = ap (λ b. cond b 1 0) elsewhere in
    record {
      kept = λ k row there live. (row, slice_get-kept rows (new ∷ []) k row there, refl, live, refl);
      fresh = λ k after there live. elim (slice_get-push_cases rows new after k there) [
        | inl old ↦ (after, old, live)
        | inr made ↦
            let wrong : false ≡ true = sym elsewhere ∙ subst (λ (x : Instance). is_live_on v x ≡ true) made.1 live in absurd (cc)
      ];
      count = omega (arith, counts, none);
    }

-- ---- one more ----

place_within_at : (p : Seat → Bool) (seats : List Seat) (place : Option ℕ) → position p seats ≡ place → unwrap_or place (length seats) ≤ length seats
place_within_at p seats None none = omega arith
place_within_at p seats (Some k) some =
    let first = place_found p seats k some in omega (arith, slice_get_within seats k first.0 first.1)

pub place_within : (rows : List Instance) (altitude : List ℕ) (seats : List Seat) → place_under rows altitude seats ≤ length seats
place_within rows altitude seats =
    place_within_at (seat_passes rows (is_under altitude)) seats (position (seat_passes rows (is_under altitude)) seats) refl

-- an instance comes to the volume, at an altitude that no other takes up there
pub order_grows : (filters : List Filter) (rows : List Instance) (v : VolumeId) (seats : List Seat) (new : Instance) (seat : Seat)
    → IsOrder filters rows v seats → seat.instance.0 ≡ length rows → is_live_on v new ≡ true → registration_in filters new.filter ≡ Some seat.registration
    → ((k : ℕ) (row : Instance) → slice_get rows k ≡ Some row → is_live_on v row ≡ true → same_altitude row.altitude new.altitude ≡ false)
    → IsOrder filters (rows ++ new ∷ []) v (insert seats (place_under rows new.altitude seats) seat)
order_grows filters rows v seats new seat order last live registered apart =
    let more = rows ++ new ∷ [] in
    let place = place_under rows new.altitude seats in
    let inside : place ≤ length seats = place_within rows new.altitude seats in
    let there : slice_get more seat.instance.0 ≡ Some new = subst (λ n. slice_get more n ≡ Some new) (sym last) (slice_get-push rows new) in
    let keep = slice_get-kept rows (new ∷ []) in
    let counts = count_by-push (is_live_on v) rows new in
    let once : ◌≡◌ {A = ℕ} (cond (is_live_on v new) 1 0) 1 = ap (λ b. cond b 1 0) live in
    let long = length-insert seats place seat inside in
    let count = order.count in
    let old_seat : (p : ℕ) (x : Seat) → slice_get seats p ≡ Some x → IsSeated filters more v x = λ p x found.
    let own = order.seated p x found in
    record { row = own.row; there = keep x.instance.0 own.row own.there; live = own.live; registered = own.registered } in
    record {
      seated = λ p x found. elim (insert_cases seats place p seat x inside found) [
        | inl front ↦ old_seat p x front.1
        | inr (inl at) ↦ subst (IsSeated filters more v) (sym at.1) (record { row = new; there = there; live = live; registered = registered })
        | inr (inr behind) ↦ old_seat behind.0 x behind.3
      ];
      whole = λ k row found lives. elim (slice_get-push_cases rows new row k found) [
        | inl old ↦
            let sits = order.whole k row old lives in
            let after = insert_keeps seats place sits.0 seat sits.1 sits.2 in (after.0, sits.1, after.1, sits.3)
        | inr made ↦ (place, seat, inserted_there seats place seat inside, last ∙ sym made.0)
      ];
      falls = all_pairs_insert (IsAbove more) seats place seat inside
          (falls_still order more (λ k row found lives. (row, keep k row found, refl)))
          (λ k x before found.
          let own = order.seated k x found in
          let level = under_divides order new.altitude k x own.row found own.there ∙ lt-leb place k before in
          is_above more x seat own.row new (keep x.instance.0 own.row own.there) there
          (lower_or_above own.row.altitude new.altitude (apart x.instance.0 own.row own.there own.live) level))
          (λ k x behind found.
          let own = order.seated k x found in
          let lower = under_divides order new.altitude k x own.row found own.there ∙ le-leb place k behind in
          is_above more seat x new own.row there (keep x.instance.0 own.row own.there) lower);
      count = omega (arith, long, count, counts, once);
    }

-- ---- one fewer ----

-- the instance that sat there isn't live any more
pub order_shrinks : (filters : List Filter) (rows : List Instance) (v : VolumeId) (seats : List Seat) (change : Instance → Instance) (at place : ℕ)
    (row : Instance) (seat : Seat) → IsOrder filters rows v seats → slice_get rows at ≡ Some row → is_live_on v row ≡ true → is_live_on v (change row) ≡ false
    → (change row).altitude ≡ row.altitude → slice_get seats place ≡ Some seat → seat.instance.0 ≡ at
    → IsOrder filters (updated change rows at) v (remove seats place)
order_shrinks filters rows v seats change at place row seat order there live gone level sits own =
    let others = updated change rows at in
    let within : place < length seats = slice_get_within seats place seat sits in
    let counts = count_by-updated (is_live_on v) change rows at row there in
    let once : ◌≡◌ {A = ℕ} (cond (is_live_on v row) 1 0) 1 = ap (λ b. cond b 1 0) live in
    let none : ◌≡◌ {A = ℕ} (cond (is_live_on v (change row)) 1 0) 0 = ap (λ b. cond b 1 0) gone in
    let short = length-remove seats place within in
    let count = order.count in
    record {
      seated = λ p x found.
          let old = remove_cases seats place p x found in
          let its = order.seated old.0 x old.1 in
          let other : x.instance.0 ≢ at = λ is. old.2 (sits_once order old.0 place x seat old.1 sits (is ∙ sym own)) in
          record { row = its.row; there = updated-other change rows at x.instance.0 other ∙ its.there; live = its.live; registered = its.registered };
      whole = λ k after found lives. elim (updated_cases change rows at k after found) [
        | inl old ↦
            let its = order.whole k after old.1 lives in
            let other : its.0 ≢ place = λ is.
            let same : its.1 ≡ seat = same_Some its.1 seat (sym its.2 ∙ subst (λ n. slice_get seats n ≡ Some seat) (sym is) sits) in
            old.0 (sym its.3 ∙ ap (λ (x : Seat). x.instance.0) same ∙ own) in
            let left = remove_keeps seats place its.0 its.1 its.2 other in (left.0, its.1, left.1, its.3)
        | inr made ↦
            let is_row : made.1.0 ≡ row = same_Some made.1.0 row (sym made.1.1 ∙ there) in
            let is_after : after ≡ change row = made.1.2 ∙ ap change is_row in
            let wrong : false ≡ true = sym gone ∙ subst (λ (x : Instance). is_live_on v x ≡ true) is_after lives in absurd (cc)
      ];
      falls = all_pairs_remove (IsAbove others) seats place within (falls_still order others (λ k old found lives. elim (cases_eq k at) [
        | inl is ↦
            let is_row : old ≡ row = same_Some old row (sym found ∙ subst (λ n. slice_get rows n ≡ Some row) (sym is) there) in
            let after : slice_get others k ≡ Some (change row) =
            subst (λ n. slice_get others n ≡ Some (change row)) (sym is) (updated-same change rows at row there) in
            rw is_row (change row, after, level)
        | inr other ↦ (old, updated-other change rows at k other ∙ found, refl)
      ]));
      count = omega (arith, short, count, counts, once, none);
    }
