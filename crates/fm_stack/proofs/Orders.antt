-- What a place in the order of a volume says of altitudes.
use Rattle.fm_stack.proofs.Words.{all_from_slice_get, and_parts, cases_Bool, pair_at, VolumeId, InstanceId, Operation, Instance, StackWorld}
use Rattle.fm_stack.proofs.Words.{is_live_on, is_lower}
use Rattle.fm_stack.proofs.Words.{Filter, Seat, IsOrder, IsAbove, IsSeated, is_seat_of, is_under, passes, seat_passes, place_under}
use Rattle.fm_stack.proofs.Words.{SitsOnce, place_behind, place_behind_at}
use Rattle.fm_stack.proofs.Words.{place_behind_row, is_visited, is_called_for, is_to_visit, is_registered, is_attached, is_below_cursor, is_lower_option}
use Rattle.fm_stack.proofs.Words.{instance_of, has_pre_in, has_post_in, is_candidate, IsNextInstance, has_operation, option_map, lt-leb, le-leb, leb-true}
use Rattle.fm_stack.proofs.Places.{found, not_found, none_passes, place_found, no_place, slice_get-drop, some_passes}
use Rattle.fm_stack.proofs.Heights.{lower_after, not_above, not_below_itself}
use Rattle.fm_stack.proofs.Visits.{visited_is_live}
use Rattle.std.proofs.Common.{◌≡◌, ◌∙◌, ◌+◌, ◌-◌, ◌<◌, ◌≤◌, ◌==◌, ◌&&◌, ◌||◌, ℕ, Bool, true, false, nat_le, nat_lt, List, length, drop}
use Rattle.std.proofs.Common.{slice_get, find, position, unwrap_or, Option, Some, None, refl, sym, ap, subst, arith, inl, inr}
use Rattle.std.proofs.lemmas.Bool.{cases_order, eqb-true}
use Rattle.std.proofs.Common.{eq-eqb}
use Rattle.std.proofs.lemmas.Option.{same_Some, none-some, slice_get_read, slice_get_within}
use Rattle.std.proofs.lemmas.List.Folds.{Any-from_list_any, list_any_none}
use Rattle.std.specs.List.{list_any}
use Rattle.fm_types.specs.declared.registration.Registration.{Registration}

-- the places from that one on are those of the instances that pass
abbrev pub Divides : List Instance → List Seat → (Instance → Bool) → ℕ → Type 0
Divides rows seats test place = (p : ℕ) (seat : Seat) (row : Instance) → slice_get seats p ≡ Some seat → slice_get rows seat.instance.0 ≡ Some row
    → test row ≡ nat_le place p

-- ---- the order falls ----

-- of two that sit there, the one behind is lower
pub lower_behind : {filters : List Filter} {rows : List Instance} {v : VolumeId} {seats : List Seat} → IsOrder filters rows v seats
    → (p q : ℕ) (a b : Seat) (x y : Instance) → p < q → slice_get seats p ≡ Some a → slice_get seats q ≡ Some b
    → slice_get rows a.instance.0 ≡ Some x → slice_get rows b.instance.0 ≡ Some y → is_lower y.altitude x.altitude ≡ true
lower_behind {rows = rows} {seats = seats} order p q a b x y below first second front back =
    let altitude : Option Instance → Option (List ℕ) = option_map (λ (row : Instance). row.altitude) in
    let falls = pair_at (IsAbove rows) seats p q a b order.falls below first second in
    let at_front = subst (λ o. is_lower_option (altitude (slice_get rows b.instance.0)) (altitude o) ≡ true) front falls in
    subst (λ o. is_lower_option (altitude o) (altitude (Some x)) ≡ true) back at_front

-- nobody sits in two places
pub sits_once : {filters : List Filter} {rows : List Instance} {v : VolumeId} {seats : List Seat} → IsOrder filters rows v seats → SitsOnce seats
sits_once {rows = rows} order p q a b first second same =
    let front = order.seated p a first in
    let back : slice_get rows b.instance.0 ≡ Some front.row = subst (λ n. slice_get rows n ≡ Some front.row) same front.there in
    let level = not_below_itself front.row.altitude in
    elim (cases_order p q) [
      | inl is ↦ is
      | inr (inl below) ↦
          let wrong : true ≡ false = sym (lower_behind order p q a b front.row front.row below first second front.there back) ∙ level in absurd (cc)
      | inr (inr above) ↦
          let wrong : true ≡ false = sym (lower_behind order q p b a front.row front.row above second first back front.there) ∙ level in absurd (cc)
    ]

-- ---- places ----

-- who sits at a place is found there
pub found_there : (seats : List Seat) → SitsOnce seats → (i : InstanceId) (place : ℕ) (seat : Seat) → slice_get seats place ≡ Some seat
    → seat.instance.0 ≡ i.0 → (found : Option ℕ) → position (is_seat_of i) seats ≡ found → found ≡ Some place
found_there seats once i place seat there is None none =
    let wrong : true ≡ false = sym (eq-eqb seat.instance.0 i.0 is) ∙ no_place (is_seat_of i) seats none place seat there in absurd (cc)
found_there seats once i place seat there is (Some k) some =
    let first = place_found (is_seat_of i) seats k some in
    ap Some (once k place first.0 seat first.1 there (eqb-true first.0.instance.0 i.0 first.2 ∙ sym is))

row_passes : (rows : List Instance) (test : Instance → Bool) (seat : Seat) (row : Instance) (b : Bool) → slice_get rows seat.instance.0 ≡ Some row
    → seat_passes rows test seat ≡ b → test row ≡ b
row_passes rows test seat row b there passed = sym (ap (passes test) there) ∙ passed

-- the place behind an instance that sits there
behind_divides : {filters : List Filter} {rows : List Instance} {v : VolumeId} {seats : List Seat} → IsOrder filters rows v seats
    → (k : ℕ) (last : Seat) (visited : Instance) → slice_get seats k ≡ Some last → slice_get rows last.instance.0 ≡ Some visited
    → Divides rows seats (is_under visited.altitude) (k + 1)
behind_divides {rows = rows} {seats = seats} order k last visited at there p seat row stands sits =
    elim (cases_order p k) [
      | inl is ↦
          let same_seat : seat ≡ last = same_Some seat last (sym stands ∙ subst (λ n. slice_get seats n ≡ Some last) (sym is) at) in
          let same : row ≡ visited =
          same_Some row visited (sym sits ∙ subst (λ (s : Seat). slice_get rows s.instance.0 ≡ Some visited) (sym same_seat) there) in
          subst (λ (r : Instance). is_lower r.altitude visited.altitude ≡ false) (sym same) (not_below_itself visited.altitude)
          ∙ sym (lt-leb (k + 1) p (omega (arith, is)))
      | inr (inl before) ↦
          not_above visited.altitude row.altitude (lower_behind order p k seat last row visited before stands at sits there)
          ∙ sym (lt-leb (k + 1) p (omega (arith, before)))
      | inr (inr behind) ↦
          lower_behind order k p last seat visited row behind at stands there sits ∙ sym (le-leb (k + 1) p (omega (arith, behind)))
    ]

under_divides_at : {filters : List Filter} {rows : List Instance} {v : VolumeId} {seats : List Seat} → IsOrder filters rows v seats
    → (altitude : List ℕ) (place : Option ℕ) → position (seat_passes rows (is_under altitude)) seats ≡ place
    → Divides rows seats (is_under altitude) (unwrap_or place (length seats))
under_divides_at {rows = rows} {seats = seats} order altitude None none p seat row stands sits =
    row_passes rows (is_under altitude) seat row false sits (no_place (seat_passes rows (is_under altitude)) seats none p seat stands)
    ∙ sym (lt-leb (length seats) p (slice_get_within seats p seat stands))
under_divides_at {rows = rows} {seats = seats} order altitude (Some k) some p seat row stands sits =
    let test = seat_passes rows (is_under altitude) in
    let first = place_found test seats k some in
    let highest = order.seated k first.0 first.1 in
    let lower : is_lower highest.row.altitude altitude ≡ true = row_passes rows (is_under altitude) first.0 highest.row true highest.there first.2 in
    elim (cases_order p k) [
      | inl is ↦
          let same_seat : first.0 ≡ seat = same_Some first.0 seat (sym first.1 ∙ subst (λ n. slice_get seats n ≡ Some seat) is stands) in
          row_passes rows (is_under altitude) seat row true sits (subst (λ s. test s ≡ true) same_seat first.2) ∙ sym (le-leb k p (omega (arith, is)))
      | inr (inl before) ↦
          row_passes rows (is_under altitude) seat row false sits (first.3 p seat before stands) ∙ sym (lt-leb k p before)
      | inr (inr behind) ↦
          lower_after row.altitude highest.row.altitude altitude
          (lower_behind order k p first.0 seat highest.row row behind first.1 stands highest.there sits) lower
          ∙ sym (le-leb k p (omega (arith, behind)))
    ]

pub under_divides : {filters : List Filter} {rows : List Instance} {v : VolumeId} {seats : List Seat} → IsOrder filters rows v seats
    → (altitude : List ℕ) → Divides rows seats (is_under altitude) (place_under rows altitude seats)
under_divides {rows = rows} {seats = seats} order altitude = under_divides_at order altitude (position (seat_passes rows (is_under altitude)) seats) refl

-- ---- where a search begins ----

abbrev number : Option InstanceId → Option ℕ
number last = option_map (λ (i : InstanceId). i.0) last

-- below the instance with that number, if there is one
below_divides : (s : StackWorld) {v : VolumeId} {seats : List Seat} → IsOrder s.filters s.instances v seats → (last : InstanceId) (visited : Option Instance)
    → slice_get s.instances last.0 ≡ visited → Divides s.instances seats (is_below_cursor s (Some last.0)) (place_behind_row s.instances seats visited)
below_divides s {seats = seats} order last None there p seat row stands sits =
    rw there (sym (lt-leb (length seats) p (slice_get_within seats p seat stands)))
below_divides s order last (Some visited) there p seat row stands sits =
    rw there (under_divides order visited.altitude p seat row stands sits)

cursor_divides : (s : StackWorld) {v : VolumeId} {seats : List Seat} → IsOrder s.filters s.instances v seats → (last : InstanceId) (place : Option ℕ)
    → position (is_seat_of last) seats ≡ place
    → Divides s.instances seats (is_below_cursor s (Some last.0)) (place_behind_at s.instances seats last place)
cursor_divides s order last None none p seat row at sits = below_divides s order last (slice_get s.instances last.0) refl p seat row at sits
cursor_divides s {seats = seats} order last (Some k) some p seat row at sits =
    let first = place_found (is_seat_of last) seats k some in
    let own = order.seated k first.0 first.1 in
    let is : first.0.instance.0 ≡ last.0 = eqb-true first.0.instance.0 last.0 first.2 in
    let there : slice_get s.instances last.0 ≡ Some own.row = subst (λ n. slice_get s.instances n ≡ Some own.row) is own.there in
    rw there (behind_divides order k first.0 own.row first.1 own.there p seat row at sits)

place_divides : (s : StackWorld) {v : VolumeId} {seats : List Seat} → IsOrder s.filters s.instances v seats → (last : Option InstanceId)
    → Divides s.instances seats (is_below_cursor s (number last)) (place_behind s.instances seats last)
place_divides s order None p seat row stands sits = sym (le-leb 0 p (omega arith))
place_divides s {seats = seats} order (Some last) p seat row stands sits =
    cursor_divides s order last (position (is_seat_of last) seats) refl p seat row stands sits

-- ---- what a search finds ----

called_same : (o : Option Filter) (r : Registration) (operation : Operation) → option_map (λ (f : Filter). f.registration) o ≡ Some r
    → (has_pre_in o operation || has_post_in o operation) ≡ (has_operation r.pre.0 operation || has_operation r.post.0 operation)
called_same None r operation is = absurd (none-some r is)
called_same (Some f) r operation is = rw (← same_Some f.registration r is) refl

same_test : (called attached here early : Bool) → here ≡ true → (called && (attached && early)) ≡ (attached && (here && (early && called)))
same_test true attached true early is = elim (cases_Bool attached) [
  | inl a ↦ rw a (elim (cases_Bool early) [ inl e ↦ rw e refl | inr e ↦ rw e refl ])
  | inr a ↦ rw a refl
]
same_test false true true true is = refl
same_test false true true false is = refl
same_test false false true early is = refl
same_test called attached false early is = cc

-- what a search tests of a seat is whether its instance is to be visited
visited_same : (s : StackWorld) (v : VolumeId) (born : ℕ) (operation : Operation) (seat : Seat) (row : Instance) → IsSeated s.filters s.instances v seat
    → slice_get s.instances seat.instance.0 ≡ Some row → is_visited s.instances born operation seat ≡ is_to_visit s v born operation row
visited_same s v born operation seat row seated there =
    let same : seated.row ≡ row = same_Some seated.row row (sym seated.there ∙ there) in
    let live = subst (λ (r : Instance). is_live_on v r ≡ true) same seated.live in
    let here = and_parts (row.volume.0 == v.0) _ live in
    let called = called_same (slice_get s.filters seated.row.filter.0) seat.registration operation seated.registered in
    let own : is_registered s.filters row.filter operation ≡ is_called_for operation seat =
    subst (λ (r : Instance). is_registered s.filters r.filter operation ≡ is_called_for operation seat) same called in
    rw (there, own) (same_test (is_called_for operation seat) (is_attached row.phase) (row.volume.0 == v.0) (nat_lt row.birth born) here.0)

-- a candidate sits behind the place where the search begins, and passes its test
candidate_place : (s : StackWorld) (v : VolumeId) (last : Option InstanceId) (born : ℕ) (operation : Operation) (seats : List Seat)
    → IsOrder s.filters s.instances v seats → (j : ℕ) (row : Instance) → slice_get s.instances j ≡ Some row
    → is_candidate s v (number last) born operation row ≡ true
    → (k : ℕ) × (seat : Seat) × (slice_get (drop (place_behind s.instances seats last) seats) k ≡ Some seat) × (seat.instance.0 ≡ j)
    × (is_visited s.instances born operation seat ≡ true)
candidate_place s v last born operation seats order j row there passed =
    let from = place_behind s.instances seats last in
    let parts = and_parts (is_to_visit s v born operation row) (is_below_cursor s (number last) row) passed in
    let sits = order.whole j row there (visited_is_live s v born operation row parts.0) in
    let p = sits.0 in
    let seat = sits.1 in
    let own : slice_get s.instances seat.instance.0 ≡ Some row = subst (λ n. slice_get s.instances n ≡ Some row) (sym sits.3) there in
    let behind : from ≤ p = leb-true from p (sym (place_divides s order last p seat row sits.2 own) ∙ parts.1) in
    let split : from + (p - from) ≡ p = omega (arith, behind) in (
      p - from,
      seat,
      slice_get-drop seats from (p - from) ∙ subst (λ n. slice_get seats n ≡ Some seat) (sym split) sits.2,
      sits.3,
      visited_same s v born operation seat row (order.seated p seat sits.2) own ∙ parts.0,
    )

next_at : (s : StackWorld) (v : VolumeId) (last : Option InstanceId) (born : ℕ) (operation : Operation) (seats : List Seat)
    → IsOrder s.filters s.instances v seats → (seat : Option Seat)
    → find (is_visited s.instances born operation) (drop (place_behind s.instances seats last) seats) ≡ seat
    → IsNextInstance s v (number last) born operation (instance_of seat)
next_at s v last born operation seats order None none = λ j row there.
    let rest = drop (place_behind s.instances seats last) seats in
    elim (cases_Bool (is_candidate s v (number last) born operation row)) [
      | inl passed ↦
          let sits = candidate_place s v last born operation seats order j row there passed in
          let wrong : true ≡ false = sym sits.4 ∙ not_found (is_visited s.instances born operation) rest none sits.0 sits.1 sits.2 in cc
      | inr fails ↦ fails
    ]
next_at s v last born operation seats order (Some seat) some =
    let from = place_behind s.instances seats last in
    let rest = drop from seats in
    let first = found (is_visited s.instances born operation) rest seat some in
    let place = from + first.place in
    let there : slice_get seats place ≡ Some seat = sym (slice_get-drop seats from first.place) ∙ first.there in
    let own = order.seated place seat there in
    let visited : is_to_visit s v born operation own.row ≡ true = sym (visited_same s v born operation seat own.row own own.there) ∙ first.passes in
    let below : is_below_cursor s (number last) own.row ≡ true =
    place_divides s order last place seat own.row there own.there ∙ le-leb from place (omega arith) in
    record {
      row = own.row;
      there = own.there;
      passes = rw (visited, below) refl;
      highest = λ j other at passed.
          let sits = candidate_place s v last born operation seats order j other at passed in
          let its : slice_get s.instances sits.1.instance.0 ≡ Some other = subst (λ n. slice_get s.instances n ≡ Some other) (sym sits.3) at in
          let its_place : slice_get seats (from + sits.0) ≡ Some sits.1 = sym (slice_get-drop seats from sits.0) ∙ sits.2 in
          elim (cases_order sits.0 first.place) [
            | inl is ↦
                let same_seat : sits.1 ≡ seat = same_Some sits.1 seat (sym sits.2 ∙ subst (λ n. slice_get rest n ≡ Some seat) (sym is) first.there) in
                let same : other ≡ own.row =
                same_Some other own.row (sym its ∙ subst (λ (x : Seat). slice_get s.instances x.instance.0 ≡ Some own.row) (sym same_seat) own.there) in
                subst (λ (x : Instance). is_lower own.row.altitude x.altitude ≡ false) (sym same) (not_below_itself own.row.altitude)
            | inr (inl before) ↦ let wrong : true ≡ false = sym sits.4 ∙ first.first sits.0 sits.1 before sits.2 in cc
            | inr (inr behind) ↦
                not_above other.altitude own.row.altitude
                (lower_behind order place (from + sits.0) seat sits.1 own.row other (omega (arith, behind)) there its_place own.there its)
          ];
    }

-- the first that passes behind the last is the next instance of the operation
pub next_is : (s : StackWorld) (v : VolumeId) (last : Option InstanceId) (born : ℕ) (operation : Operation) (seats : List Seat)
    → IsOrder s.filters s.instances v seats
    → IsNextInstance s v (number last) born operation
    (instance_of (find (is_visited s.instances born operation) (drop (place_behind s.instances seats last) seats)))
next_is s v last born operation seats order =
    next_at s v last born operation seats order (find (is_visited s.instances born operation) (drop (place_behind s.instances seats last) seats)) refl

-- whoever takes up something on the volume sits in its order
pub any_seated : {filters : List Filter} {rows : List Instance} {v : VolumeId} {seats : List Seat} → IsOrder filters rows v seats → (p : Instance → Bool)
    → ((row : Instance) → p row ≡ true → is_live_on v row ≡ true) → list_any (seat_passes rows p) seats ≡ list_any p rows
any_seated {rows = rows} {seats = seats} order p lives =
    elim (cases_Bool (list_any p rows)) [
      | inl some ↦
          let one = Any-from_list_any p rows some in
          let there : slice_get rows one.0 ≡ Some one.1 = slice_get_read rows (length rows) one.0 one.1 refl one.2 (sym one.3) in
          let sits = order.whole one.0 one.1 there (lives one.1 one.4) in
          let own : slice_get rows sits.1.instance.0 ≡ Some one.1 = subst (λ n. slice_get rows n ≡ Some one.1) (sym sits.3) there in
          some_passes (seat_passes rows p) seats sits.0 sits.1 sits.2 (ap (passes p) own ∙ one.4) ∙ sym some
      | inr none ↦
          list_any_none (seat_passes rows p) seats (all_from_slice_get (λ seat. seat_passes rows p seat ≡ false) seats (λ k seat there.
          let own = order.seated k seat there in
          ap (passes p) own.there ∙ none_passes p rows seat.instance.0 own.row none own.there)) ∙ sym none
    ]
