-- Attaching an instance keeps what holds of the stack, and changes nothing for operations under way.
use Rattle.fm_stack.proofs.Words.{leb-false, or_parts, cases_eq, eq-eqb, ne_eqb, length_push, VolumeId, first_of, none_refuses}
use Rattle.fm_stack.proofs.Words.{all_at, all_from_slice_get, all_pairs_pushed, count_by-push, slice_get-kept, slice_get-push_cases}
use Rattle.fm_stack.proofs.Words.{Instance, StackWorld, attach_refusals, attached, has_altitude_on, has_name_on, new_instance, Follows}
use Rattle.fm_stack.proofs.Words.{clashes, is_detached, is_live_on, is_setup, same_altitude, same_name, is_to_visit, IsPlaced, IsStack}
use Rattle.std.proofs.Common.{◌≡◌, ℕ, ◌<◌, ◌≤◌, Bool, true, false, not, cond, ◌&&◌, ◌||◌, ◌==◌, nat_le, eqb, List, [], ◌∷◌, ◌++◌, length}
use Rattle.std.proofs.Common.{None, count_by, refl, sym, ap, subst, arith, inl, inr}
use Rattle.fm_stack.proofs.Places.{none_passes}
use Rattle.fm_types.specs.declared.ids.FilterId.{FilterId}

-- both tests of attach fail at a row of that volume that is live, so that neither name nor altitude is the same
apart_on_volume : (live name altitude : Bool) → ((true && live) && name) ≡ false → ((true && live) && altitude) ≡ false
    → ((true && live) && ((true && true) && (name || altitude))) ≡ false
apart_on_volume false name altitude names altitudes = refl
apart_on_volume true true altitude names altitudes = names
apart_on_volume true false true names altitudes = altitudes
apart_on_volume true false false names altitudes = refl

apart_elsewhere : (own live either : Bool) → ((own && live) && ((false && true) && either)) ≡ false
apart_elsewhere false live either = refl
apart_elsewhere true false either = refl
apart_elsewhere true true either = refl

new_is_apart : (f : FilterId) (v : VolumeId) (name altitude : List ℕ) (row : Instance) → has_name_on v name row ≡ false → has_altitude_on v altitude row ≡ false
    → clashes row (new_instance f v name altitude) ≡ false
new_is_apart f v name altitude row names altitudes =
    let live = not (is_detached row.phase) in
    let same = same_name row.name name in
    let level = same_altitude row.altitude altitude in
    elim (cases_eq v.0 row.volume.0) [
      | inl is ↦
          let here : eqb v.0 row.volume.0 ≡ true = eq-eqb v.0 row.volume.0 is in
          let there : eqb row.volume.0 v.0 ≡ true = eq-eqb row.volume.0 v.0 (sym is) in
          let own : eqb row.volume.0 row.volume.0 ≡ true = eq-eqb row.volume.0 row.volume.0 refl in
          let no_name : ((true && live) && same) ≡ false = subst (λ b. ((b && live) && same) ≡ false) there names in
          let no_level : ((true && live) && level) ≡ false = subst (λ b. ((b && live) && level) ≡ false) there altitudes in
          rw (here, own) (apart_on_volume live same level no_name no_level)
      | inr other ↦
          let elsewhere : eqb v.0 row.volume.0 ≡ false = ne_eqb v.0 row.volume.0 other in
          rw elsewhere (apart_elsewhere (eqb row.volume.0 row.volume.0) live (same || level))
    ]

one_at_most : (live : Bool) → cond live 1 0 ≤ 1
one_at_most true = omega arith
one_at_most false = omega arith

few_still : (s : StackWorld) (f : FilterId) (v : VolumeId) (name altitude : List ℕ) → IsStack s → count_by (is_live_on v) s.instances < 32
    → (w : VolumeId) → count_by (is_live_on w) (s.instances ++ new_instance f v name altitude ∷ []) ≤ 32
few_still s f v name altitude sound few w =
    let new = new_instance f v name altitude in
    let counts = count_by-push (is_live_on w) s.instances new in
    elim (cases_eq w.0 v.0) [
      | inl is ↦
          let here : count_by (is_live_on w) s.instances < 32 =
          subst (λ n. count_by (λ (row : Instance). (row.volume.0 == n) && not (is_detached row.phase)) s.instances < 32) (sym is) few in
          omega (arith, counts, here, one_at_most (is_live_on w new))
      | inr other ↦
          let elsewhere : ◌≡◌ {A = ℕ} (cond (is_live_on w new) 1 0) 0 = ap (λ b. cond (b && true) 1 0) (ne_eqb v.0 w.0 (λ is. other (sym is))) in
          omega (arith, counts, elsewhere, sound.few w)
    ]

pub attached_keeps : (s : StackWorld) (f : FilterId) (v : VolumeId) (name altitude : List ℕ) → IsStack s
    → first_of (attach_refusals s f v name altitude) ≡ None → IsStack (attached s f v name altitude)
attached_keeps s f v name altitude sound none =
    let new = new_instance f v name altitude in
    let tests = none_refuses (attach_refusals s f v name altitude) none in
    let names = tests.1.1.1.1.0 in
    let altitudes = tests.1.1.1.1.1.0 in
    let room = or_parts (nat_le 32 (count_by (is_live_on v) s.instances)) (nat_le 4096 (length s.instances)) tests.1.1.1.1.1.1.0 in
    let few : count_by (is_live_on v) s.instances < 32 = leb-false 32 (count_by (is_live_on v) s.instances) room.0 in
    let short : length s.instances < 4096 = leb-false 4096 (length s.instances) room.1 in
    let longer = length_push s.instances new in
    let in_setup : Instance → Bool = λ x. is_setup x.phase in
    let counts = count_by-push in_setup s.instances new in
    let born = sound.born in
    record {
      filters = sound.filters;
      volumes = sound.volumes;
      instances = omega (arith, longer, short);
      placed = all_from_slice_get (IsPlaced (attached s f v name altitude)) (s.instances ++ new ∷ []) (λ k x there.
          elim (slice_get-push_cases s.instances new x k there) [
            | inl old ↦
                let placed = all_at (IsPlaced s) s.instances k x sound.placed old in
                record { filter = placed.filter; volume = placed.volume }
            | inr made ↦
                subst (IsPlaced (attached s f v name altitude)) (sym made.1)
                (record { filter = leb-false (length s.filters) f.0 tests.0; volume = leb-false (length s.volumes) v.0 tests.1.1.0 })
          ]);
      apart = all_pairs_pushed (λ a b. clashes a b ≡ false) s.instances new sound.apart (λ k x there.
          new_is_apart f v name altitude x (none_passes (has_name_on v name) s.instances k x names there)
          (none_passes (has_altitude_on v altitude) s.instances k x altitudes there));
      few = few_still s f v name altitude sound few;
      born = omega (arith, counts, longer, born);
    }

pub attached_follows : (s : StackWorld) (f : FilterId) (v : VolumeId) (name altitude : List ℕ) → IsStack s → Follows s (attached s f v name altitude)
attached_follows s f v name altitude sound =
    let new = new_instance f v name altitude in
    let longer = length_push s.instances new in
    record {
      births = omega arith;
      longer = omega (arith, longer);
      altitudes = λ i row there. (row, slice_get-kept s.instances (new ∷ []) i row there, refl);
      visits = λ w born operation i row early there visited.
          elim (slice_get-push_cases s.instances new row i there) [
            | inl old ↦ (row, old, visited, refl)
            | inr made ↦
                let wrong : is_to_visit s w born operation new ≡ true = subst (λ (x : Instance). is_to_visit s w born operation x ≡ true) made.1 visited in
                absurd (cc)
          ];
    }
