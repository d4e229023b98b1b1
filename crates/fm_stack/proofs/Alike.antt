-- Changes of an instance that leave its name, its altitude and its place on the volume alone.
use Rattle.fm_stack.proofs.Words.{cases_eq, All-updated, all_pairs_alike, count_by-updated, length-updated, updated-same, updated-other}
use Rattle.fm_stack.proofs.Words.{updated_cases, VolumeId, Operation, Instance, StackWorld, Follows, clashes, is_detached, is_live_on}
use Rattle.fm_stack.proofs.Words.{is_setup, is_to_visit, IsPlaced, IsStack}
use Rattle.std.proofs.Common.{◌≡◌, ◌⊎◌, ◌∙◌, ◌+◌, ◌≤◌, ◌==◌, ◌&&◌, ℕ, Bool, true, false, not, cond, List, length, slice_get, Some, refl}
use Rattle.std.proofs.Common.{sym, subst, arith, inl, inr}
use Rattle.std.proofs.lemmas.Option.{same_Some}
use Rattle.fm_types.specs.Lists.{updated}

-- y is x but for how far its life has come, and is gone, or is there as x is
pub record IsAlike (x y : Instance) : Type 0 where
  pub filter : y.filter ≡ x.filter
  pub volume : y.volume ≡ x.volume
  pub name : y.name ≡ x.name
  pub altitude : y.altitude ≡ x.altitude
  pub live : (is_detached y.phase ≡ true) ⊎ (is_detached y.phase ≡ is_detached x.phase)

and_none : (a b : Bool) → ((a && false) && b) ≡ false
and_none true b = refl
and_none false b = refl

and_nothing : (a b c : Bool) → (a && ((b && false) && c)) ≡ false
and_nothing true b c = and_none b c
and_nothing false b c = refl

clash_first : (x y z : Instance) → IsAlike x y → clashes x z ≡ false → clashes y z ≡ false
clash_first x y z alike apart = elim alike.live [
  | inl gone ↦ rw gone (and_none (y.volume.0 == y.volume.0) _)
  | inr same ↦ rw (alike.volume, same, alike.name, alike.altitude) apart
]

clash_second : (x y z : Instance) → IsAlike x y → clashes z x ≡ false → clashes z y ≡ false
clash_second x y z alike apart = elim alike.live [
  | inl gone ↦ rw gone (and_nothing (is_live_on z.volume z) (y.volume.0 == z.volume.0) _)
  | inr same ↦ rw (alike.volume, same, alike.name, alike.altitude) apart
]

placed_alike : (s t : StackWorld) (x y : Instance) → IsAlike x y → t.filters ≡ s.filters → t.volumes ≡ s.volumes → IsPlaced s x → IsPlaced t y
placed_alike s t x y alike filters volumes placed = record {
  filter = rw (alike.filter, filters) placed.filter;
  volume = rw (alike.volume, volumes) placed.volume;
}

abbrev pub one : Bool → ℕ
one b = cond b 1 0

no_more : (a b : Bool) → one (a && false) ≤ one (a && b)
no_more true b = omega arith
no_more false b = omega arith

live_falls : (v : VolumeId) (x y : Instance) → IsAlike x y → one (is_live_on v y) ≤ one (is_live_on v x)
live_falls v x y alike = rw alike.volume (elim alike.live [
  | inl gone ↦ rw gone (no_more (x.volume.0 == v.0) (not (is_detached x.phase)))
  | inr same ↦ rw same (omega arith)
])

-- an instance goes on in its life, and no more than its birth is counted in place of its setup
pub row_changes : (s : StackWorld) (change : Instance → Instance) (i births : ℕ) (row : Instance) → IsStack s → slice_get s.instances i ≡ Some row
    → IsAlike row (change row) → births + one (is_setup (change row).phase) ≤ s.births + one (is_setup row.phase)
    → IsStack (record s { instances = updated change s.instances i; births = births })
row_changes s change i births row sound there alike grown =
    let t : StackWorld = record s { instances = updated change s.instances i; births = births } in
    let long : length (updated change s.instances i) ≡ length s.instances = length-updated change s.instances i in
    let same : (x : Instance) → slice_get s.instances i ≡ Some x → IsAlike x (change x) = λ x found.
    subst (λ (y : Instance). IsAlike y (change y)) (same_Some row x (sym there ∙ found)) alike in
    let counts = count_by-updated (λ (x : Instance). is_setup x.phase) change s.instances i row there in
    let born = sound.born in
    record {
      filters = sound.filters;
      volumes = sound.volumes;
      instances = rw long sound.instances;
      placed = All-updated (IsPlaced s) (IsPlaced t) change s.instances i sound.placed
          (λ x found placed. placed_alike s t x (change x) (same x found) refl refl placed)
          (λ k x other found placed. record { filter = placed.filter; volume = placed.volume });
      apart = all_pairs_alike (λ x y. clashes x y ≡ false) change s.instances i sound.apart
          (λ x y found. (clash_first x (change x) y (same x found), clash_second x (change x) y (same x found)));
      few = λ v.
          let lives = count_by-updated (is_live_on v) change s.instances i row there in
          omega (arith, lives, live_falls v row (change row) alike, sound.few v);
      born = rw long (omega (arith, counts, born, grown));
    }

-- an update that keeps altitudes leaves each instance its altitude
altitudes_stay : (change : Instance → Instance) (rows : List Instance) (at : ℕ) → ((x : Instance) → (change x).altitude ≡ x.altitude)
    → (i : ℕ) (row : Instance) → slice_get rows i ≡ Some row
    → (after : Instance) × (slice_get (updated change rows at) i ≡ Some after) × (after.altitude ≡ row.altitude)
altitudes_stay change rows at keeps i row there =
    elim (cases_eq i at) [
      | inl is ↦
          let old : slice_get rows at ≡ Some row = subst (λ n. slice_get rows n ≡ Some row) is there in
          let new : slice_get (updated change rows at) i ≡ Some (change row) =
          subst (λ n. slice_get (updated change rows at) n ≡ Some (change row)) (sym is) (updated-same change rows at row old) in
          (change row, new, keeps row)
      | inr other ↦ (row, updated-other change rows at i other ∙ there, refl)
    ]

-- and what began before visits no changed instance
pub row_follows : (s : StackWorld) (change : Instance → Instance) (i births : ℕ) → ((x : Instance) → (change x).altitude ≡ x.altitude) → s.births ≤ births
    → ((v : VolumeId) (born : ℕ) (operation : Operation) (x : Instance) → born ≤ s.births → is_to_visit s v born operation (change x) ≡ true → ⊥)
    → Follows s (record s { instances = updated change s.instances i; births = births })
row_follows s change i births keeps grown passed = record {
  births = grown;
  longer = omega (arith, length-updated change s.instances i);
  altitudes = altitudes_stay change s.instances i keeps;
  visits = λ v born operation k after early found visited. elim (updated_cases change s.instances i k after found) [
    | inl old ↦ (after, old.1, visited, refl)
    | inr made ↦ absurd (passed v born operation made.1.0 early (subst (λ (x : Instance). is_to_visit s v born operation x ≡ true) made.1.2 visited))
  ];
}

-- nor where nothing changes
pub follows_itself : (s : StackWorld) → Follows s s
follows_itself s = record {
  births = omega arith;
  longer = omega arith;
  altitudes = λ i row there. (row, there, refl);
  visits = λ v born operation i row early there visited. (row, there, visited, refl);
}
