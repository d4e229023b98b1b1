-- Each event keeps what is kept: a sound stack, and the orders of its volumes.
use Rattle.fm_stack.proofs.Words.{VolumeId, InstanceId, Instance, StackWorld, Filter, Seat, IsStack, IsPlaced, IsKept, IsOrder, first_of}
use Rattle.fm_stack.proofs.Words.{is_live_on, is_detached, same_altitude, registration_in, place_under, seats_at, is_seat_of, option_map, is_emptying, Phase}
use Rattle.fm_stack.proofs.Words.{all_at, eq-eqb, ne_eqb, length_push, length-updated, none_refuses, slice_get-append_left, slice_get-push_cases, updated_cases}
use Rattle.fm_stack.proofs.Words.{attach_refusals, attached, finish_row, finished, has_altitude_on, mount_refusals, mounted, new_filter, new_instance}
use Rattle.fm_stack.proofs.Words.{new_volume, register_refusals, registered, accept_row, accepted, refuse_row, refused, is_emptying_at}
use Rattle.fm_stack.proofs.Words.{is_setup_at, is_setup, Follows}
use Rattle.fm_stack.proofs.Places.{none_passes, no_place, place_found}
use Rattle.fm_stack.proofs.Keeping.{Stays, changed_stays, nobody, order_at, order_grows, order_shrinks, order_stays, pushed_stays}
use Rattle.fm_stack.proofs.Registering.{registered_keeps, mounted_keeps}
use Rattle.fm_stack.proofs.Attaching.{attached_keeps}
use Rattle.fm_stack.proofs.Finishing.{emptying_row, finished_keeps}
use Rattle.fm_stack.proofs.SettingUp.{accepted_follows, accepted_keeps, refused_follows, refused_keeps, setup_is_live, setup_row}
use Rattle.std.proofs.Common.{◌≡◌, ◌≢◌, ◌∙◌, ◌+◌, ◌<◌, ℕ, ◌==◌, ◌&&◌, Bool, true, false, not, List, [], ◌∷◌, ◌++◌, length}
use Rattle.std.proofs.Common.{slice_get, get_or, position, unwrap_or, Option, Some, None, refl, sym, ap, subst, arith, inl, inr}
use Rattle.std.specs.List.{insert, remove}
use Rattle.std.proofs.lemmas.Bool.{eqb-true}
use Rattle.std.proofs.lemmas.Option.{get_or_from_slice_get, slice_get_within}
use Rattle.fm_types.specs.Lists.{updated}
use Rattle.fm_stack.specs.declared.instance.Phase.TheVariants as phase
use Rattle.fm_types.specs.declared.ids.FilterId.{FilterId}
use Rattle.fm_types.specs.declared.registration.Registration.{Registration}

-- ---- filters and volumes ----

-- what the filters registered that there were is registered still
filters_stay : (s : StackWorld) (filter : Filter) (v : VolumeId) → IsStack s → Stays s.filters (s.filters ++ filter ∷ []) s.instances s.instances v
filters_stay s filter v sound = record {
  kept = λ k row there live.
      let within = (all_at (IsPlaced s) s.instances k row sound.placed there).filter in
      (row, there, refl, live, ap (option_map (λ (f : Filter). f.registration)) (slice_get-append_left s.filters (filter ∷ []) row.filter.0 within));
  fresh = λ k row there live. (row, there, live);
  count = refl;
}

pub registered_kept : (s : StackWorld) (orders : List (List Seat)) (name : List ℕ) (r : Registration) → IsKept s orders
    → first_of (register_refusals s name) ≡ None → IsKept (registered s name r) orders
registered_kept s orders name r kept none = record {
  stack = registered_keeps s name r kept.stack none;
  each = kept.each;
  sorted = λ v seats there.
      order_stays s.filters (registered s name r).filters s.instances s.instances (record { 0 = v }) seats
      (filters_stay s (new_filter name r) (record { 0 = v }) kept.stack) (kept.sorted v seats there);
}

pub mounted_kept : (s : StackWorld) (orders : List (List Seat)) (name : List ℕ) → IsKept s orders → first_of (mount_refusals s name) ≡ None
    → IsKept (mounted s name) (orders ++ [] ∷ [])
mounted_kept s orders name kept none =
    let each = kept.each in
    record {
      stack = mounted_keeps s name kept.stack none;
      each = omega (arith, length_push orders [], length_push s.volumes (new_volume name), each);
      sorted = λ v seats there. elim (slice_get-push_cases orders [] seats v there) [
        | inl old ↦ kept.sorted v seats old
        | inr made ↦
            subst (IsOrder s.filters s.instances (record { 0 = v })) (sym made.1) (nobody s (record { 0 = v }) kept.stack (omega (arith, made.0, each)))
      ];
    }

-- ---- instances ----

new_is_live : (f : FilterId) (v : VolumeId) (name altitude : List ℕ) → is_live_on v (new_instance f v name altitude) ≡ true
new_is_live f v name altitude = ap (λ b. b && true) (eq-eqb v.0 v.0 refl)

new_is_elsewhere : (f : FilterId) (v w : VolumeId) (name altitude : List ℕ) → w.0 ≢ v.0 → is_live_on w (new_instance f v name altitude) ≡ false
new_is_elsewhere f v w name altitude other = ap (λ b. b && true) (ne_eqb v.0 w.0 (λ is. other (sym is)))

pub attached_kept : (s : StackWorld) (orders : List (List Seat)) (f : FilterId) (v : VolumeId) (name altitude : List ℕ) (seat : Seat) → IsKept s orders
    → first_of (attach_refusals s f v name altitude) ≡ None → seat.instance.0 ≡ length s.instances → registration_in s.filters f ≡ Some seat.registration
    → IsKept (attached s f v name altitude)
    (updated (λ (seats : List Seat). insert seats (place_under s.instances altitude (seats_at orders v.0)) seat) orders v.0)
attached_kept s orders f v name altitude seat kept none last registered =
    let new = new_instance f v name altitude in
    let change : List Seat → List Seat = λ seats. insert seats (place_under s.instances altitude (seats_at orders v.0)) seat in
    let apart = (none_refuses (attach_refusals s f v name altitude) none).1.1.1.1.1.0 in
    record {
      stack = attached_keeps s f v name altitude kept.stack none;
      each = length-updated change orders v.0 ∙ kept.each;
      sorted = λ w seats there. elim (updated_cases change orders v.0 w seats there) [
        | inl other ↦
            let at : VolumeId = record { 0 = w } in
            order_stays s.filters s.filters s.instances (s.instances ++ new ∷ []) at seats
            (pushed_stays s.filters s.instances at new (new_is_elsewhere f v at name altitude other.0)) (kept.sorted w seats other.1)
        | inr made ↦
            let old = made.1.0 in
            let is : old ≡ seats_at orders v.0 = sym (ap (λ (o : Option (List Seat)). unwrap_or o []) made.1.1) in
            let grown = order_grows s.filters s.instances v old new seat (kept.sorted v.0 old made.1.1) last (new_is_live f v name altitude) registered
            (λ k row found live.
            subst (λ b. (b && same_altitude row.altitude altitude) ≡ false) live (none_passes (has_altitude_on v altitude) s.instances k row apart found)) in
            let here = subst (λ x. IsOrder s.filters (s.instances ++ new ∷ []) v (insert old (place_under s.instances altitude x) seat)) is grown in
            rw (made.1.2, made.0) here
      ];
    }

-- an instance goes on in its life, and is live where it was
pub changed_kept : (s : StackWorld) (orders : List (List Seat)) (change : Instance → Instance) (i births : ℕ) (row : Instance) → IsKept s orders
    → slice_get s.instances i ≡ Some row → IsStack (record s { instances = updated change s.instances i; births = births })
    → ((v : VolumeId) → is_live_on v (change row) ≡ is_live_on v row) → (change row).altitude ≡ row.altitude → (change row).filter ≡ row.filter
    → IsKept (record s { instances = updated change s.instances i; births = births }) orders
changed_kept s orders change i births row kept there sound same level own = record {
  stack = sound;
  each = kept.each;
  sorted = λ v seats at.
      order_stays s.filters s.filters s.instances (updated change s.instances i) (record { 0 = v }) seats
      (changed_stays s.filters s.instances (record { 0 = v }) change i row there (same (record { 0 = v })) level own) (kept.sorted v seats at);
}

same_life : (v : VolumeId) (row after : Instance) → after.volume ≡ row.volume → is_setup row.phase ≡ true → is_detached after.phase ≡ false
    → is_live_on v after ≡ is_live_on v row
same_life v row after own in_setup live = rw (own, live, setup_is_live row.phase in_setup) refl

-- the end of a setup callback, of a stack under its other name
pub accepts : {kept now : StackWorld} (orders : List (List Seat)) (i : InstanceId) → IsKept kept orders → kept ≡ now
    → is_setup_at (slice_get now.instances i.0) ≡ true → IsKept (accepted kept i) orders × Follows now (accepted kept i)
accepts {kept} orders i sound same in_setup =
    let found = setup_row (slice_get kept.instances i.0) (ap (λ (w : StackWorld). is_setup_at (slice_get w.instances i.0)) same ∙ in_setup) in
    let stack = accepted_keeps kept i sound.stack found.0 found.1 found.2 in (
      changed_kept kept orders (accept_row kept.births) i.0 (kept.births + 1) found.0 sound found.1 stack
          (λ v. same_life v found.0 (accept_row kept.births found.0) refl found.2 refl) refl refl,
      subst (λ w. Follows w (accepted kept i)) same (accepted_follows kept i sound.stack found.0 found.1 found.2),
    )

pub refuses : {kept now : StackWorld} (orders : List (List Seat)) (i : InstanceId) → IsKept kept orders → kept ≡ now
    → is_setup_at (slice_get now.instances i.0) ≡ true → IsKept (refused kept i) orders × Follows now (refused kept i)
refuses {kept} orders i sound same in_setup =
    let found = setup_row (slice_get kept.instances i.0) (ap (λ (w : StackWorld). is_setup_at (slice_get w.instances i.0)) same ∙ in_setup) in
    let stack = refused_keeps kept i sound.stack found.0 found.1 found.2 in (
      changed_kept kept orders refuse_row i.0 kept.births found.0 sound found.1 stack
          (λ v. same_life v found.0 (refuse_row found.0) refl found.2 refl) refl refl,
      subst (λ w. Follows w (refused kept i)) same (refused_follows kept i sound.stack found.0 found.1 found.2),
    )

-- ---- the end of an instance ----

emptying_is_live : (p : Phase) → is_emptying p ≡ true → is_detached p ≡ false
emptying_is_live phase.Emptying is = refl
emptying_is_live p is = cc

live_here : (row : Instance) → is_emptying row.phase ≡ true → is_live_on row.volume row ≡ true
live_here row emptying = rw (eq-eqb row.volume.0 row.volume.0 refl, emptying_is_live row.phase emptying) refl

gone : (v : VolumeId) (row : Instance) → is_live_on v (finish_row row) ≡ false
gone v row = nothing (row.volume.0 == v.0)
  where
    nothing : (b : Bool) → (b && false) ≡ false
    nothing true = refl
    nothing false = refl

live_elsewhere : (w : ℕ) (row : Instance) → w ≢ row.volume.0 → is_live_on (record { 0 = w }) row ≡ false
live_elsewhere w row other = ap (λ b. b && not (is_detached row.phase)) (ne_eqb row.volume.0 w (λ is. other (sym is)))

-- the row that was read is that of the instance, of a stack under its other name
pub emptying_read : {kept now : StackWorld} (i : InstanceId) (row : Instance) → kept ≡ now → is_emptying_at (slice_get now.instances i.0) ≡ true
    → row ≡ get_or kept.instances i.0 row → (i.0 < length kept.instances) × (slice_get kept.instances i.0 ≡ Some row) × (is_emptying row.phase ≡ true)
emptying_read {kept} i row same emptying read =
    let found = emptying_row (slice_get kept.instances i.0) (ap (λ (w : StackWorld). is_emptying_at (slice_get w.instances i.0)) same ∙ emptying) in
    let is : found.0 ≡ row = sym (get_or_from_slice_get kept.instances i.0 found.0 row found.1) ∙ sym read in
    (slice_get_within kept.instances i.0 found.0 found.1, found.1 ∙ ap Some is, subst (λ (r : Instance). is_emptying r.phase ≡ true) is found.2)

-- its volume has an order
pub has_order : (s : StackWorld) (orders : List (List Seat)) (k : ℕ) (row : Instance) → IsKept s orders → slice_get s.instances k ≡ Some row
    → row.volume.0 < length orders
has_order s orders k row kept there =
    let within = (all_at (IsPlaced s) s.instances k row kept.stack.placed there).volume in
    omega (arith, within, kept.each)

-- where a search of the order finds it
pub found_at : (orders read : List (List Seat)) (seats : List Seat) (i : InstanceId) (v : VolumeId) (place answer : Option ℕ) → seats ≡ seats_at read v.0
    → read ≡ orders → answer ≡ position (is_seat_of i) seats → answer ≡ place → position (is_seat_of i) (seats_at orders v.0) ≡ place
found_at orders read seats i v place answer own same found is =
    sym (ap (λ (o : List (List Seat)). position (is_seat_of i) (seats_at o v.0)) same) ∙ ap (position (is_seat_of i)) (sym own) ∙ sym found ∙ is

-- an instance that isn't detached sits in the order of its volume
pub sits_there : (s : StackWorld) (orders : List (List Seat)) (i : InstanceId) (row : Instance) → IsKept s orders → slice_get s.instances i.0 ≡ Some row
    → is_emptying row.phase ≡ true → position (is_seat_of i) (seats_at orders row.volume.0) ≡ None → ⊥
sits_there s orders i row kept there emptying none =
    let order = order_at s orders row.volume kept in
    let sits = order.whole i.0 row there (live_here row emptying) in
    let fails = no_place (is_seat_of i) (seats_at orders row.volume.0) none sits.0 sits.1 sits.2 in
    let wrong : true ≡ false = sym (eq-eqb sits.1.instance.0 i.0 sits.3) ∙ fails in cc

pub finished_kept : (s : StackWorld) (orders : List (List Seat)) (i : InstanceId) (row : Instance) (place : ℕ) → IsKept s orders
    → slice_get s.instances i.0 ≡ Some row → is_emptying row.phase ≡ true → position (is_seat_of i) (seats_at orders row.volume.0) ≡ Some place
    → IsKept (finished s i) (updated (λ (seats : List Seat). remove seats place) orders row.volume.0)
finished_kept s orders i row place kept there emptying at =
    let change : List Seat → List Seat = λ seats. remove seats place in
    let found = place_found (is_seat_of i) (seats_at orders row.volume.0) place at in
    record {
      stack = finished_keeps s i kept.stack row there emptying;
      each = length-updated change orders row.volume.0 ∙ kept.each;
      sorted = λ w seats stands. elim (updated_cases change orders row.volume.0 w seats stands) [
        | inl other ↦
            let v : VolumeId = record { 0 = w } in
            order_stays s.filters s.filters s.instances (updated finish_row s.instances i.0) v seats
            (changed_stays s.filters s.instances v finish_row i.0 row there (gone v row ∙ sym (live_elsewhere w row other.0)) refl refl)
            (kept.sorted w seats other.1)
        | inr made ↦
            let old = made.1.0 in
            let is : seats_at orders row.volume.0 ≡ old = ap (λ (o : Option (List Seat)). unwrap_or o []) made.1.1 in
            let sits : slice_get old place ≡ Some found.0 = subst (λ (x : List Seat). slice_get x place ≡ Some found.0) is found.1 in
            let left = order_shrinks s.filters s.instances row.volume old finish_row i.0 place row found.0 (kept.sorted row.volume.0 old made.1.1) there
            (live_here row emptying) (gone row.volume row) refl sits (eqb-true found.0.instance.0 i.0 found.2) in
            rw (made.1.2, made.0) left
      ];
    }
