-- Events that take instances, filters and volumes on in their lives and leave everything else: what is kept through them.
use Rattle.fm_stack.proofs.Words.{VolumeId, FilterId, Operation, Instance, Filter, StackWorld, Seat, Follows, IsKept, IsPlaced, IsStack}
use Rattle.fm_stack.proofs.Words.{all_at, all_from_slice_get, all_pairs_from_slice_get, and_from, and_parts, cases_eq, clashes, has_post_in, has_pre_in}
use Rattle.fm_stack.proofs.Words.{is_attached, is_detached, is_live_on, is_registered, is_setup, is_to_visit, length-updated, option_map, pair_at, passes}
use Rattle.fm_stack.proofs.Words.{registration_in, updated-other, updated-same}
use Rattle.fm_stack.proofs.Keeping.{order_stays}
use Rattle.std.proofs.Common.{◌≡◌, ◌∙◌, ◌==◌, ◌&&◌, ◌||◌, ℕ, zero, suc, Bool, true, false, cond, nat_lt, List, [], ◌∷◌, length, map}
use Rattle.std.proofs.Common.{slice_get, count_by, Option, Some, None, refl, sym, ap, subst, arith, inl, inr}
use Rattle.std.proofs.lemmas.List.Sums.{sum_by-cons}
use Rattle.std.proofs.lemmas.Option.{same_Some, none-some, slice_get_within}
use Rattle.fm_types.proofs.Lists.{slice_get-some}
use Rattle.fm_types.specs.Lists.{updated}

-- ---- what is read of an element ----

-- what one change leaves, it leaves of each
pub read_updated : {X Y : Type 0} (read : Option X → Y) (change : X → X) (xs : List X) (at : ℕ)
    → ((x : X) → slice_get xs at ≡ Some x → read (Some (change x)) ≡ read (Some x)) → (k : ℕ)
    → read (slice_get (updated change xs at) k) ≡ read (slice_get xs k)
read_updated read change [] at same k = refl
read_updated read change (x ∷ xs) zero same zero = same x refl
read_updated read change (x ∷ xs) zero same (suc k) = refl
read_updated read change (x ∷ xs) (suc at) same zero = refl
read_updated read change (x ∷ xs) (suc at) same (suc k) = read_updated read change xs at same k

-- and so does a change of all
pub read_mapped : {X Y : Type 0} (read : Option X → Y) (change : X → X) (xs : List X) → ((x : X) → read (Some (change x)) ≡ read (Some x)) → (k : ℕ)
    → read (slice_get (map change xs) k) ≡ read (slice_get xs k)
read_mapped read change [] same k = refl
read_mapped read change (x ∷ xs) same zero = same x
read_mapped read change (x ∷ xs) same (suc k) = read_mapped read change xs same k

-- ---- one instance ----

-- y is x later: the same but for how far its life has come, in Setup and detached exactly where x is, and not attached again
pub record GoesOn (x y : Instance) : Type 0 where
  pub filter : y.filter ≡ x.filter
  pub volume : y.volume ≡ x.volume
  pub name : y.name ≡ x.name
  pub altitude : y.altitude ≡ x.altitude
  pub birth : y.birth ≡ x.birth
  pub setup : is_setup y.phase ≡ is_setup x.phase
  pub detached : is_detached y.phase ≡ is_detached x.phase
  pub attached : is_attached y.phase ≡ true → is_attached x.phase ≡ true

pub goes_on_itself : (x : Instance) → GoesOn x x
goes_on_itself x = record {
  filter = refl;
  volume = refl;
  name = refl;
  altitude = refl;
  birth = refl;
  setup = refl;
  detached = refl;
  attached = λ is. is;
}

same_clash : (x y a b : Instance) → GoesOn x a → GoesOn y b → clashes a b ≡ clashes x y
same_clash x y a b first second =
    rw (first.volume, first.detached, first.name, first.altitude, second.volume, second.detached, second.name, second.altitude) refl

same_live : (v : VolumeId) (x y : Instance) → GoesOn x y → is_live_on v y ≡ is_live_on v x
same_live v x y on = rw (on.volume, on.detached) refl

-- ---- rows ----

-- each instance is there still, later
pub record RowsGoOn (rows others : List Instance) : Type 0 where
  pub long : length others ≡ length rows
  pub each : (k : ℕ) (x : Instance) → slice_get rows k ≡ Some x → (y : Instance) × (slice_get others k ≡ Some y) × GoesOn x y

-- and each that is there was there before
pub was_there : {rows others : List Instance} → RowsGoOn rows others → (k : ℕ) (y : Instance) → slice_get others k ≡ Some y
    → (x : Instance) × (slice_get rows k ≡ Some x) × GoesOn x y
was_there {rows} {others} on k y there =
    let old = slice_get-some rows k (omega (arith, slice_get_within others k y there, on.long)) in
    let new = on.each k old.0 old.1 in
    (old.0, old.1, subst (GoesOn old.0) (same_Some new.0 y (sym new.1 ∙ there)) new.2)

pub rows_stay : (rows : List Instance) → RowsGoOn rows rows
rows_stay rows = record { long = refl; each = λ k x there. (x, there, goes_on_itself x) }

-- one of them goes on
pub one_goes_on : (change : Instance → Instance) (rows : List Instance) (at : ℕ) → ((x : Instance) → slice_get rows at ≡ Some x → GoesOn x (change x))
    → RowsGoOn rows (updated change rows at)
one_goes_on change rows at on = record {
  long = length-updated change rows at;
  each = λ k x there. elim (cases_eq k at) [
    | inl is ↦
        let here : slice_get rows at ≡ Some x = subst (λ n. slice_get rows n ≡ Some x) is there in
        (change x, subst (λ n. slice_get (updated change rows at) n ≡ Some (change x)) (sym is) (updated-same change rows at x here), on x here)
    | inr other ↦ (x, updated-other change rows at k other ∙ there, goes_on_itself x)
  ];
}

-- all of them go on
pub mapped_at : {X Y : Type 0} (f : X → Y) (xs : List X) (k : ℕ) (x : X) → slice_get xs k ≡ Some x → slice_get (map f xs) k ≡ Some (f x)
mapped_at f [] k x there = absurd (none-some x there)
mapped_at f (y ∷ xs) zero x there = ap (λ z. Some (f z)) (same_Some y x there)
mapped_at f (y ∷ xs) (suc k) x there = mapped_at f xs k x there

mapped_length : {X Y : Type 0} (f : X → Y) (xs : List X) → length (map f xs) ≡ length xs
mapped_length f [] = refl
mapped_length f (x ∷ xs) = ap suc (mapped_length f xs)

pub all_go_on : (change : Instance → Instance) (rows : List Instance) → ((x : Instance) → GoesOn x (change x)) → RowsGoOn rows (map change rows)
all_go_on change rows on = record {
  long = mapped_length change rows;
  each = λ k x there. (change x, mapped_at change rows k x there, on x);
}

-- what is read of an instance in the same way before and later, whether it is there or not
pub read_stays : {X : Type 0} {rows others : List Instance} (read : Option Instance → X) → ((x y : Instance) → GoesOn x y → read (Some y) ≡ read (Some x))
    → RowsGoOn rows others → (k : ℕ) → read (slice_get others k) ≡ read (slice_get rows k)
read_stays {rows = rows} {others} read same on k = by_old (slice_get rows k) refl (slice_get others k) refl
  where
    by_old : (o : Option Instance) → slice_get rows k ≡ o → (p : Option Instance) → slice_get others k ≡ p → read p ≡ read o
    by_old (Some x) there p now =
        let new = on.each k x there in ap read (sym now ∙ new.1) ∙ same x new.0 new.2
    by_old None none None now = refl
    by_old None none (Some y) now = let old = was_there on k y now in absurd (none-some old.0 (sym none ∙ old.1))

-- the row that passes a test
pub passes_row : (test : Instance → Bool) (o : Option Instance) → passes test o ≡ true → (row : Instance) × (o ≡ Some row) × (test row ≡ true)
passes_row test None is = cc
passes_row test (Some row) is = (row, refl, is)

-- a test that stays the same at each holds as often
count_stays : {X : Type 0} (p : X → Bool) (xs ys : List X) → length ys ≡ length xs
    → ((k : ℕ) (x y : X) → slice_get xs k ≡ Some x → slice_get ys k ≡ Some y → p y ≡ p x) → count_by p ys ≡ count_by p xs
count_stays p [] [] long same = refl
count_stays p [] (y ∷ ys) long same = cc
count_stays p (x ∷ xs) [] long same = cc
count_stays {X} p (x ∷ xs) (y ∷ ys) long same =
    let one : X → ℕ = λ z. cond (p z) 1 0 in
    let rest : count_by p ys ≡ count_by p xs = count_stays p xs ys (omega (arith, long)) (λ k a b front back. same (suc k) a b front back) in
    let first : one y ≡ one x = ap (λ b. cond b 1 0) (same zero x y refl refl) in
    rw (sum_by-cons one x xs, sum_by-cons one y ys) (omega (arith, rest, first))

counted : {rows others : List Instance} → RowsGoOn rows others → (p : Instance → Bool) → ((x y : Instance) → GoesOn x y → p y ≡ p x)
    → count_by p others ≡ count_by p rows
counted {rows} {others} on p same =
    count_stays p rows others on.long (λ k x y before after.
    let new = on.each k x before in same x y (subst (GoesOn x) (same_Some new.0 y (sym new.1 ∙ after)) new.2))

-- ---- the stack ----

-- instances, filters and volumes go on in their lives: nobody comes, nobody is born, and filters keep what they registered
pub record StackGoesOn (s t : StackWorld) : Type 0 where
  pub births : t.births ≡ s.births
  pub rows : RowsGoOn s.instances t.instances
  pub filters : length t.filters ≡ length s.filters
  pub registered : (f : FilterId) → registration_in t.filters f ≡ registration_in s.filters f
  pub volumes : length t.volumes ≡ length s.volumes

placed_still : (s t : StackWorld) (x y : Instance) → StackGoesOn s t → GoesOn x y → IsPlaced s x → IsPlaced t y
placed_still s t x y goes on placed = record { filter = rw (on.filter, goes.filters) placed.filter; volume = rw (on.volume, goes.volumes) placed.volume }

pub goes_on_keeps : (s t : StackWorld) → StackGoesOn s t → IsStack s → IsStack t
goes_on_keeps s t goes sound =
    let on = goes.rows in
    let setups = counted on (λ (x : Instance). is_setup x.phase) (λ x y goes. goes.setup) in
    let births = goes.births in
    let long = on.long in
    let born = sound.born in
    record {
      filters = rw goes.filters sound.filters;
      volumes = rw goes.volumes sound.volumes;
      instances = rw long sound.instances;
      placed = all_from_slice_get (IsPlaced t) t.instances (λ k y there.
          let old = was_there on k y there in placed_still s t old.0 y goes old.2 (all_at (IsPlaced s) s.instances k old.0 sound.placed old.1));
      apart = all_pairs_from_slice_get (λ a b. clashes a b ≡ false) t.instances (λ i j a b below first second.
          let x = was_there on i a first in
          let y = was_there on j b second in
          same_clash x.0 y.0 a b x.2 y.2 ∙ pair_at (λ a b. clashes a b ≡ false) s.instances i j x.0 y.0 sound.apart below x.1 y.1);
      few = λ v. rw (counted on (is_live_on v) (same_live v)) (sound.few v);
      born = omega (arith, setups, births, long, born);
    }

-- what is asked of a filter's registration alone stays
same_callbacks : (o p : Option Filter) (operation : Operation)
    → option_map (λ (f : Filter). f.registration) o ≡ option_map (λ (f : Filter). f.registration) p
    → (has_pre_in o operation || has_post_in o operation) ≡ (has_pre_in p operation || has_post_in p operation)
same_callbacks None None operation same = refl
same_callbacks None (Some f) operation same = absurd (none-some f.registration same)
same_callbacks (Some f) None operation same = absurd (none-some f.registration (sym same))
same_callbacks (Some f) (Some g) operation same = rw (same_Some f.registration g.registration same) refl

-- what is to be visited afterwards was to be visited before
pub visited_before : (s t : StackWorld) → StackGoesOn s t → (v : VolumeId) (born : ℕ) (operation : Operation) (x y : Instance) → GoesOn x y
    → is_to_visit t v born operation y ≡ true → is_to_visit s v born operation x ≡ true
visited_before s t goes v born operation x y on visited =
    let rest = (x.volume.0 == v.0) && (nat_lt x.birth born && is_registered s.filters x.filter operation) in
    let same : is_registered t.filters y.filter operation ≡ is_registered s.filters x.filter operation =
    same_callbacks (slice_get t.filters y.filter.0) (slice_get s.filters x.filter.0) operation
    (goes.registered y.filter ∙ ap (registration_in s.filters) on.filter) in
    let own : (is_attached y.phase && rest) ≡ true =
    subst (λ b. (is_attached y.phase && ((x.volume.0 == v.0) && (nat_lt x.birth born && b))) ≡ true) same
    (subst (λ (w : VolumeId). (is_attached y.phase && ((w.0 == v.0) && (nat_lt x.birth born && is_registered t.filters y.filter operation))) ≡ true) on.volume
    (subst (λ n. (is_attached y.phase && ((y.volume.0 == v.0) && (nat_lt n born && is_registered t.filters y.filter operation))) ≡ true) on.birth visited)) in
    let parts = and_parts (is_attached y.phase) rest own in
    and_from (is_attached x.phase) rest (on.attached parts.0) parts.1

pub goes_on_follows : (s t : StackWorld) → StackGoesOn s t → Follows s t
goes_on_follows s t goes =
    let births = goes.births in
    let long = goes.rows.long in
    record {
      births = omega (arith, births);
      longer = omega (arith, long);
      altitudes = λ i row there. let new = goes.rows.each i row there in (new.0, new.1, new.2.altitude);
      visits = λ v born operation i row early there visited.
          let old = was_there goes.rows i row there in
          (old.0, old.1, visited_before s t goes v born operation old.0 row old.2 visited, sym old.2.altitude);
    }

-- nobody leaves a seat: an instance keeps it until it is detached
pub goes_on_kept : (s t : StackWorld) (orders : List (List Seat)) → StackGoesOn s t → IsKept s orders → IsKept t orders
goes_on_kept s t orders goes kept = record {
  stack = goes_on_keeps s t goes kept.stack;
  each = kept.each ∙ sym goes.volumes;
  sorted = λ n seats there.
      let v : VolumeId = record { 0 = n } in
      order_stays s.filters t.filters s.instances t.instances v seats
      (record {
        kept = λ k x found live.
            let new = goes.rows.each k x found in (
              new.0,
              new.1,
              new.2.altitude,
              same_live v x new.0 new.2 ∙ live,
              goes.registered new.0.filter ∙ ap (registration_in s.filters) new.2.filter,
            );
        fresh = λ k y found live.
            let old = was_there goes.rows k y found in (old.0, old.1, sym (same_live v old.0 y old.2) ∙ live);
        count = counted goes.rows (is_live_on v) (same_live v);
      })
      (kept.sorted n seats there);
}

-- ---- how the stack goes on ----

pub only_rows : (s : StackWorld) (others : List Instance) → RowsGoOn s.instances others → StackGoesOn s (record s { instances = others })
only_rows s others on = record { births = refl; rows = on; filters = refl; registered = λ f. refl; volumes = refl }

-- a filter goes on, and perhaps instances with it
pub filter_goes_on : (s : StackWorld) (change : Filter → Filter) (at : ℕ) (others : List Instance) → ((x : Filter) → (change x).registration ≡ x.registration)
    → RowsGoOn s.instances others → StackGoesOn s (record s { filters = updated change s.filters at; instances = others })
filter_goes_on s change at others same on = record {
  births = refl;
  rows = on;
  filters = length-updated change s.filters at;
  registered = λ f. read_updated (option_map (λ (x : Filter). x.registration)) change s.filters at (λ x there. ap Some (same x)) f.0;
  volumes = refl;
}

-- ---- of a stack under its other name ----

pub goes_both : {kept now : StackWorld} (t : StackWorld) (orders : List (List Seat)) → IsKept kept orders → kept ≡ now → StackGoesOn kept t
    → IsKept t orders × Follows now t
goes_both {kept} t orders sound same goes = (goes_on_kept kept t orders goes sound, subst (λ w. Follows w t) same (goes_on_follows kept t goes))
