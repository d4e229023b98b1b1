-- A visit of the next instance, the call of the base, and every event of the stack keep an operation's descent.
use Rattle.fm_world.proofs.Words.{Follows, altitude_at, is_live_on, is_lower, is_lower_option, same_altitude, same_name, IsHighest, IsStack, pair_at, HasRoom}
use Rattle.fm_world.proofs.Words.{IsDescent, is_among, last_of, trail, cursor_of, InstanceId, Instance, NonePasses, Operation, StackWorld, VolumeId, clashes, is_below_cursor, is_candidate}
use Rattle.fm_world.proofs.Words.{is_detached, is_lower_at, is_to_visit, AllPairs, Bool, List, None, Option, Some, [], ap, arith, false, get_or, inl, inr}
use Rattle.fm_world.proofs.Words.{count_by, length, length-append, not, option_map, refl, slice_get, subst, suc, sym, true, zero, ℕ, ◌&&◌, ◌++◌, ◌<◌, ◌==◌, ◌||◌, ◌∙◌, ◌∷◌, ◌≡◌, ◌≤◌}
use Rattle.fm_world.proofs.Words.{and_from, and_parts, and_right, cases_order, eq-eqb, false≢true, ne_eqb, or_parts, common_steps, reverse-append}
use Rattle.fm_world.proofs.Words.{all_pairs_push, slice_get-get_or}
use Rattle.std.proofs.Common.{Ordering}
use Rattle.fm_altitude.specs.Order.{altitude_cmp}
use Rattle.fm_altitude.specs.Total.{altitude_total}
use Rattle.std.proofs.lemmas.Cmp.{tied_itself}
use Rattle.std.specs.Ordering.{is_eq, is_lt, ordering_reverse}
use Rattle.std.specs.declared.cmp.Ordering.TheVariants.{Less}
use Rattle.fm_world.proofs.Cases.{by_bool, count-le, count-lt, count-some}

less_from : (o : Ordering) → is_lt o ≡ true → o ≡ Less
less_from o h = grind arith

lower_irrefl : (a : List ℕ) → is_lower a a ≡ false
lower_irrefl a = ap is_lt (tied_itself altitude_total a)

turned : (o p : Ordering) → o ≡ ordering_reverse p → is_lt o ≡ false → is_eq p ≡ false → is_lt p ≡ true
turned o p e h k = grind arith

-- of two altitudes that differ, the one that isn't lower is higher
lower_or : (a b : List ℕ) → is_lower a b ≡ false → same_altitude b a ≡ false → is_lower b a ≡ true
lower_or a b h k = turned (altitude_cmp a b) (altitude_cmp b a) (altitude_total.antisymm a b) h k

eq_turned : (o : Ordering) → is_eq (ordering_reverse o) ≡ is_eq o
eq_turned o = grind arith

same_sym : (a b : List ℕ) → same_altitude a b ≡ same_altitude b a
same_sym a b = ap is_eq (altitude_total.antisymm a b) ∙ eq_turned (altitude_cmp b a)

option_trans : (a b c : Option (List ℕ)) → is_lower_option a b ≡ true → is_lower_option b c ≡ true → is_lower_option a c ≡ true
option_trans (Some a) (Some b) (Some c) h k = ap is_lt (altitude_total.trans a b c (less_from (altitude_cmp a b) h) (less_from (altitude_cmp b c) k))
option_trans _ _ _ h k = cc

option_irrefl : (a : Option (List ℕ)) → is_lower_option a a ≡ false
option_irrefl a = grind (arith, lower_irrefl)

pub last_of-push : (is : List ℕ) (i : ℕ) → last_of (is ++ i ∷ []) ≡ Some i
last_of-push is i = ap (λ (xs : List ℕ). slice_get xs 0) (reverse-append is (i ∷ []))

first_stays : (xs : List ℕ) (x y : ℕ) → slice_get (xs ++ x ∷ y ∷ []) 0 ≡ slice_get (xs ++ x ∷ []) 0
first_stays [] x y = refl
first_stays (z ∷ xs) x y = refl

-- more before the last one
pub last_of-cons : (i j : ℕ) (is : List ℕ) → last_of (i ∷ j ∷ is) ≡ last_of (j ∷ is)
last_of-cons i j is = grind (arith, common_steps, reverse-append, first_stays)

-- a visit comes at the end of the way
pub trail_push : (below : Option InstanceId) (is : List ℕ) (i : ℕ) → trail below (is ++ i ∷ []) ≡ trail below is ++ i ∷ []
trail_push None is i = refl
trail_push (Some j) is i = refl

pub cursor_push : (below : Option InstanceId) (is : List ℕ) (i : ℕ) → cursor_of below (is ++ i ∷ []) ≡ Some i
cursor_push below is i = ap last_of (trail_push below is i) ∙ last_of-push (trail below is) i

-- before the first visit it is where the operation began
pub cursor_from : (below : Option InstanceId) → cursor_of below [] ≡ option_map (λ i. i.0) below
cursor_from None = refl
cursor_from (Some i) = refl

-- what isn't on the way wasn't visited
among_trail : (below : Option InstanceId) (is : List ℕ) (i : ℕ) → is_among (trail below is) i ≡ false → is_among is i ≡ false
among_trail None is i h = h
among_trail (Some j) is i h = (or_parts (j.0 == i) (is_among is i) h).1

-- what is lower than the last visit is lower than all of them
below_all : (s : StackWorld) (a : Option (List ℕ)) (is : List ℕ) → AllPairs (λ i j. is_lower_at s j i ≡ true) is
    → ((l : ℕ) → last_of is ≡ Some l → is_lower_option a (altitude_at s l) ≡ true)
    → (k : ℕ) (d : ℕ) → k < length is → is_lower_option a (altitude_at s (get_or is k d)) ≡ true
below_all s a (i ∷ []) falls low zero d h = low i refl
below_all s a (i ∷ j ∷ is) falls low (suc k) d h =
    below_all s a (j ∷ is) (λ m n e p q. falls (suc m) (suc n) e (omega arith) (omega arith)) (λ l e. low l (last_of-cons i j is ∙ e)) k d (omega arith)
below_all s a (i ∷ j ∷ is) falls low zero d h =
    option_trans a (altitude_at s j) (altitude_at s i)
    (below_all s a (j ∷ is) (λ m n e p q. falls (suc m) (suc n) e (omega arith) (omega arith)) (λ l e. low l (last_of-cons i j is ∙ e)) 0 d (omega arith))
    (falls 0 1 d (omega arith) (omega arith))
below_all s a _ falls low _ d h = absurd (omega arith)

altitude_there : (s : StackWorld) (i : ℕ) (row : Instance) → slice_get s.instances i ≡ Some row → altitude_at s i ≡ Some row.altitude
altitude_there s i row h = ap (option_map (λ (r : Instance). r.altitude)) h

-- what an operation is to visit
record IsThere (v : VolumeId) (row : Instance) : Type 0 where
  pub volume : row.volume.0 ≡ v.0
  pub stays : not (is_detached row.phase) ≡ true

to_visit_there : (s : StackWorld) (v : VolumeId) (born : ℕ) (operation : Operation) (row : Instance)
    → is_to_visit s v born operation row ≡ true → IsThere v row
to_visit_there s v born operation row h = grind arith

live_there : (v : VolumeId) (a b : Instance) → IsThere v a → IsThere v b → is_live_on a.volume b ≡ true
live_there v a b g h = and_from (b.volume.0 == a.volume.0) (not (is_detached b.phase)) (eq-eqb b.volume.0 a.volume.0 (h.volume ∙ sym g.volume)) h.stays

clash_parts : (x y n m : Bool) → (x && (y && (n || m))) ≡ false → x ≡ true → y ≡ true → m ≡ false
clash_parts x y n m h a b = grind arith

-- two instances that are to be visited by one operation have distinct altitudes
apart_altitudes : (s : StackWorld) (v : VolumeId) (i j : ℕ) (a b : Instance) → IsStack s
    → slice_get s.instances i ≡ Some a → slice_get s.instances j ≡ Some b → IsThere v a → IsThere v b
    → (i ≡ j → ⊥) → same_altitude b.altitude a.altitude ≡ false
apart_altitudes s v i j a b stack h k g l differ =
    let Apart = λ (x y : Instance). clashes x y ≡ false in
    elim (cases_order i j) [
      | inl e ↦ absurd (differ e)
      | inr (inl less) ↦ same_sym b.altitude a.altitude
          ∙ clash_parts (is_live_on a.volume a) (is_live_on a.volume b) (same_name a.name b.name) (same_altitude a.altitude b.altitude)
          (pair_at Apart s.instances i j a b stack.apart less h k) (live_there v a a g g) (live_there v a b g l)
      | inr (inr more) ↦ clash_parts (is_live_on b.volume b) (is_live_on b.volume a) (same_name b.name a.name) (same_altitude b.altitude a.altitude)
          (pair_at Apart s.instances j i b a stack.apart more k h) (live_there v b b l l) (live_there v b a l g)
    ]

not_self : (s : StackWorld) (i j : ℕ) → j ≡ i → is_lower_at s i j ≡ true → ⊥
not_self s i j e h = grind (arith, option_irrefl)

-- an instance below all that were visited wasn't visited itself
unseen_from : (s : StackWorld) (i : ℕ) (is : List ℕ)
    → ((k : ℕ) (d : ℕ) → k < length is → is_lower_at s i (get_or is k d) ≡ true) → is_among is i ≡ false
unseen_from s i [] h = refl
unseen_from s i (j ∷ is) h =
    let rest : is_among is i ≡ false = unseen_from s i is (λ k d l. h (suc k) d (omega arith)) in
    let here : (j == i) ≡ false = ne_eqb j i (λ e. not_self s i j e (h 0 i (omega arith))) in
    rw (here, rest) refl

-- the next instance is lower than all visited so far
next_lower : (s : StackWorld) (v : VolumeId) (born : ℕ) (operation : Operation) (visited : List ℕ) (i : ℕ)
    → AllPairs (λ i j. is_lower_at s j i ≡ true) visited
    → IsHighest (is_candidate s v (last_of visited) born operation) s.instances i
    → (k : ℕ) (d : ℕ) → k < length visited → is_lower_at s i (get_or visited k d) ≡ true
next_lower s v born operation visited i h6 h7 k d h10 = grind (arith, and_parts, below_all, altitude_there)

pub next_unseen : (s : StackWorld) (v : VolumeId) (below : Option InstanceId) (born : ℕ) (operation : Operation) (visited : List ℕ) (i : ℕ) (reached : Bool)
    → IsDescent s v below born operation visited reached → IsHighest (is_candidate s v (cursor_of below visited) born operation) s.instances i
    → is_among visited i ≡ false
next_unseen s v below born operation visited i reached d next =
    among_trail below visited i (unseen_from s i (trail below visited) (next_lower s v born operation (trail below visited) i d.falls next))

among_push : (is : List ℕ) (i : ℕ) (j : ℕ) → is_among (is ++ i ∷ []) j ≡ false → (is_among is j ≡ false) × ((i ≡ j) → ⊥)
among_push [] i j h = (refl, λ e. false≢true (sym (or_parts (i == j) false h).0 ∙ eq-eqb i j e))
among_push (k ∷ is) i j h = grind (arith, (among_push is i j))

-- a visit of the next instance
pub descent_visits : (s : StackWorld) (v : VolumeId) (below : Option InstanceId) (born : ℕ) (operation : Operation) (visited : List ℕ) (i : ℕ) → IsStack s
    → IsDescent s v below born operation visited false → IsHighest (is_candidate s v (cursor_of below visited) born operation) s.instances i
    → IsDescent s v below born operation (visited ++ i ∷ []) false
descent_visits s v below born operation visited i stack d next = record {
  falls = subst (AllPairs (λ i j. is_lower_at s j i ≡ true)) (sym (trail_push below visited i))
      (all_pairs_push (λ i j. is_lower_at s j i ≡ true) (trail below visited) i d.falls
      (λ k e l. next_lower s v born operation (trail below visited) i d.falls next k e l));
  passes_none = λ j row h t b u.
      let unseen = among_push visited i j u in
      let before = d.passes_none j row h t b unseen.0 in
      let cursor = cursor_of below visited in
      let not_higher = next.highest j row h (and_from (is_to_visit s v born operation row) (is_below_cursor s cursor row) t before.0) in
      let passes = and_parts (is_to_visit s v born operation next.row) (is_below_cursor s cursor next.row) next.passes in
      let differ = apart_altitudes s v i j next.row row stack next.there h
      (to_visit_there s v born operation next.row passes.0) (to_visit_there s v born operation row t) unseen.1 in
      let lower : is_lower row.altitude next.row.altitude ≡ true = lower_or next.row.altitude row.altitude not_higher differ in (
        ap (λ c. is_below_cursor s c row) (cursor_push below visited i)
            ∙ ap (is_lower_option (Some row.altitude)) (altitude_there s i next.row next.there) ∙ lower,
        refl,
      );
}

-- where nothing is left to visit, the base may be called
pub descent_reaches : (s : StackWorld) (v : VolumeId) (below : Option InstanceId) (born : ℕ) (operation : Operation) (visited : List ℕ)
    → IsDescent s v below born operation visited false → NonePasses (is_candidate s v (cursor_of below visited) born operation) s.instances
    → IsDescent s v below born operation visited true
descent_reaches s v below born operation visited d none = record {
  falls = d.falls;
  passes_none = λ j row h t b u.
      let before = d.passes_none j row h t b u in
      let passes = and_from (is_to_visit s v born operation row) (is_below_cursor s (cursor_of below visited) row) t before.0 in
      absurd (false≢true (sym (none j row h) ∙ passes));
}

altitude_stays : (s t : StackWorld) → Follows s t → (i : ℕ) (x : List ℕ) → altitude_at s i ≡ Some x → altitude_at t i ≡ Some x
altitude_stays s t f i x h = grind arith

lower_stays : (s t : StackWorld) → Follows s t → (i j : ℕ) → is_lower_at s i j ≡ true → is_lower_at t i j ≡ true
lower_stays s t f i j h = grind arith

below_stays : (s t : StackWorld) → Follows s t → (cursor : Option ℕ) (a b : Instance) → b.altitude ≡ a.altitude
    → is_below_cursor s cursor a ≡ true → is_below_cursor t cursor b ≡ true
below_stays s t f cursor a b e h = grind arith

-- the other way: what is below the cursor now was below it before, where the cursor is an instance that was there
below_was : (s t : StackWorld) → Follows s t → (cursor : Option ℕ) (a b : Instance) → b.altitude ≡ a.altitude
    → ((l : ℕ) → cursor ≡ Some l → l < length s.instances) → is_below_cursor t cursor b ≡ true → is_below_cursor s cursor a ≡ true
below_was s t f None a b e there h = refl
below_was s t f (Some l) a b e there h =
    let row = get_or s.instances l a in
    let at : slice_get s.instances l ≡ Some row = slice_get-get_or s.instances l a (there l refl) in
    grind (arith, altitude_there, altitude_stays)

-- every event of the stack keeps every descent
pub descent_follows : (s t : StackWorld) (v : VolumeId) (below : Option InstanceId) (born : ℕ) (operation : Operation) (visited : List ℕ) (reached : Bool)
    → Follows s t → born ≤ s.births → ((l : ℕ) → option_map (λ (i : InstanceId). i.0) below ≡ Some l → l < length s.instances)
    → IsDescent s v below born operation visited reached → IsDescent t v below born operation visited reached
descent_follows s t v below born operation visited reached f past there d =
    let way = trail below visited in
    let first = option_map (λ (i : InstanceId). i.0) below in
    record {
      falls = λ i j e p q. lower_stays s t f (get_or way j e) (get_or way i e) (d.falls i j e p q);
      passes_none = λ i row h k b u.
          let before = f.visits v born operation i row past h k in
          let begins = below_was s t f first before.0 row (sym before.3) there b in
          let was = d.passes_none i before.0 before.1 before.2 begins u in
          (below_stays s t f (cursor_of below visited) before.0 row (sym before.3) was.0, was.1);
    }

-- nothing that was left to visit comes to be left
pub none_follows : (s t : StackWorld) (v : VolumeId) (born : ℕ) (operation : Operation) (cursor : Option ℕ)
    → Follows s t → born ≤ s.births → ((l : ℕ) → cursor ≡ Some l → l < length s.instances)
    → NonePasses (is_candidate s v cursor born operation) s.instances → NonePasses (is_candidate t v cursor born operation) t.instances
none_follows s t v born operation cursor f past there none j row h =
    by_bool (λ b. b ≡ false) (is_candidate t v cursor born operation row) (λ e.
    let parts = and_parts (is_to_visit t v born operation row) (is_below_cursor t cursor row) e in
    let before = f.visits v born operation j row past h parts.0 in
    let was = below_was s t f cursor before.0 row (sym before.3) there parts.1 in
    absurd (false≢true (sym (none j before.0 before.1) ∙ and_from (is_to_visit s v born operation before.0)
    (is_below_cursor s cursor before.0) before.2 was))) (λ e. refl)

-- room for the visits that may come

pub room_is : (s : StackWorld) (v : VolumeId) (below : Option InstanceId) (born : ℕ) (operation : Operation) (visited : List ℕ) (i : ℕ)
    → HasRoom s v below born operation visited → IsHighest (is_candidate s v (cursor_of below visited) born operation) s.instances i → length visited < 32
room_is s v below born operation visited i r next = grind (arith, count-some)

pub room_visits : (s : StackWorld) (v : VolumeId) (below : Option InstanceId) (born : ℕ) (operation : Operation) (visited : List ℕ) (i : ℕ)
    → HasRoom s v below born operation visited → IsHighest (is_candidate s v (cursor_of below visited) born operation) s.instances i
    → HasRoom s v below born operation (visited ++ i ∷ [])
room_visits s v below born operation visited i r next =
    let cursor = cursor_of below visited in
    let q = is_candidate s v (Some i) born operation in
    let there = altitude_there s i next.row next.there in
    let itself : q next.row ≡ false =
    and_right (is_to_visit s v born operation next.row) (is_below_cursor s (Some i) next.row)
    (subst (λ x. is_lower_option (Some next.row.altitude) x ≡ false) (sym there) (lower_irrefl next.row.altitude)) in
    let passed = and_parts (is_to_visit s v born operation next.row) (is_below_cursor s cursor next.row) next.passes in
    let fewer = count-lt (is_candidate s v cursor born operation) q s.instances i next.row next.there next.passes itself
    (λ row k.
    let parts = and_parts (is_to_visit s v born operation row) (is_below_cursor s (Some i) row) k in
    and_from (is_to_visit s v born operation row) (is_below_cursor s cursor row) parts.0
    ((elim cursor as (λ c. is_below_cursor s c next.row ≡ true → is_below_cursor s c row ≡ true) [
      | None ↦ λ _. refl
      | Some l ↦ option_trans (Some row.altitude) (Some next.row.altitude) (altitude_at s l)
          (subst (λ x. is_lower_option (Some row.altitude) x ≡ true) there parts.1)
    ]) passed.1)) in
    record {
      past = r.past;
      room = omega (
        arith,
        r.room,
        fewer,
        length-append visited (i ∷ []),
        ap (λ c. count_by (is_candidate s v c born operation) s.instances) (cursor_push below visited i),
      );
    }

pub room_follows : (s t : StackWorld) (v : VolumeId) (below : Option InstanceId) (born : ℕ) (operation : Operation) (visited : List ℕ)
    → Follows s t → ((l : ℕ) → cursor_of below visited ≡ Some l → l < length s.instances)
    → HasRoom s v below born operation visited → HasRoom t v below born operation visited
room_follows s t v below born operation visited f there r =
    let cursor = cursor_of below visited in
    let fewer = count-le (is_candidate s v cursor born operation) (is_candidate t v cursor born operation) s.instances t.instances
    (λ i row h k.
    let parts = and_parts (is_to_visit t v born operation row) (is_below_cursor t cursor row) k in
    let before = f.visits v born operation i row r.past h parts.0 in grind (arith, and_from, below_was)) in
    record { past = omega (arith, r.past, f.births); room = omega (arith, r.room, fewer) }

-- ---- below an instance, or at the base

-- of what is to be visited fewer are lower than an instance
pub room_below : (s : StackWorld) (v : VolumeId) (below : Option InstanceId) (born : ℕ) (operation : Operation)
    → count_by (is_to_visit s v born operation) s.instances ≤ 32 → born ≤ s.births → HasRoom s v below born operation []
room_below s v below born operation few past = record {
  past = past;
  room = omega (
    arith,
    few,
    count-le (is_to_visit s v born operation) (is_candidate s v (cursor_of below []) born operation) s.instances s.instances
        (λ i row h k. (row, h, (and_parts (is_to_visit s v born operation row) (is_below_cursor s (cursor_of below []) row) k).0)),
  );
}

pub descent_begins : (s : StackWorld) (v : VolumeId) (below : Option InstanceId) (born : ℕ) (operation : Operation) → IsDescent s v below born operation [] false
descent_begins s v None born operation = record { falls = λ i j d p q. absurd (omega arith); passes_none = λ i row h t b u. (b, refl) }
descent_begins s v (Some l) born operation = record { falls = λ i j d p q. absurd (omega arith); passes_none = λ i row h t b u. (b, refl) }
