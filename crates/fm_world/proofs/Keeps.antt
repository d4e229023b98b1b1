-- The events on filters, volumes and instances keep what is under way.
use Rattle.fm_world.proofs.Words.{accept_row, refuse_row, Follows, IsStack, slice_get-push, updated-other, updated-same, Spot, is_in_at, is_in_drain}
use Rattle.fm_world.proofs.Words.{IsFileSound, HasWorkers, IsUnderWay, most_at, FilterId, Instance, InstanceId, OpId, StackWorld, Status, VolumeId, WorkerId}
use Rattle.fm_world.proofs.Words.{first_of, is_setup, one, updated, AtSetup, InstanceCallback, is_at, put, worker_at, World, Place, Bool, Err, List, None, Ok, Option}
use Rattle.fm_world.proofs.Words.{Result, Some, [], ap, arith, count_by, false, inl, inr, length, length-set, refl, slice_get, subst, suc, sym, true, zero, ℕ}
use Rattle.fm_world.proofs.Words.{◌++◌, ◌+◌, ◌<◌, ◌∙◌, ◌∷◌, ◌≡◌, ◌≢◌, ◌≤◌, cases_eq, eq-eqb, ne_eqb, slice_get_within}
use Rattle.std.proofs.lemmas.List.Sums.{count_by-le-length}
use Rattle.fm_stack.proofs.Attaching.{attached_follows, attached_keeps}
use Rattle.fm_stack.proofs.SettingUp.{accepted_follows, accepted_keeps, refused_follows, refused_keeps}
use Rattle.fm_world.proofs.Amongs.{among_follows}
use Rattle.fm_world.proofs.Cases.{by_option, count-some, one_true}
use Rattle.fm_world.proofs.Ties.{at_none, count_moves, count_stays, own_callback_of}
use Rattle.fm_stack.specs.Events as stack

-- streams, handles and the creates under way
abbrev pub FiledIn : World → Type 0
FiledIn w = IsFileSound w.files w.flow

pub worker_below : (w : World) (k : WorkerId) (a : Place) → worker_at w.workers k ≡ Some a → IsUnderWay w → k.0 < 48
worker_below w k a at s = subst (λ n. k.0 < n) s.hands (slice_get_within w.workers k.0 a at)

-- ---- workers outside of operations

pub record Outside (a : Place) : Type 0 where
  pub spots : (p : OpId) (s : Spot) → is_in_at p s a ≡ false
  pub drains : (p : OpId) (i : ℕ) → is_in_drain p i a ≡ false

abbrev pub is_outside : Place → Bool
is_outside (Place.Pre o i) = false
is_outside (Place.Base o) = false
is_outside (Place.Post o i) = false
is_outside (Place.Drain o i) = false
is_outside (Place.EarlyDrain o i) = false
is_outside _ = true

pub outside_of : (a : Place) → is_outside a ≡ true → Outside a
outside_of a h = record { spots = λ p s. in_none p s h; drains = λ p i. in_no_drain p i h }
  where
    in_none : (p : OpId) (s : Spot) → is_outside a ≡ true → is_in_at p s a ≡ false
    in_none p s h = grind arith

    in_no_drain : (p : OpId) (i : ℕ) → is_outside a ≡ true → is_in_drain p i a ≡ false
    in_no_drain p i h = grind arith

pub follows_same : (s : StackWorld) → Follows s s
follows_same s = grind arith

-- whoever is in callbacks of instances may be there still
abbrev pub KeepsWorkers : StackWorld → StackWorld → Type 0
KeepsWorkers s t = (d : InstanceCallback) (i n : ℕ) → HasWorkers d (slice_get s.instances i) n → HasWorkers d (slice_get t.instances i) n

-- filters, volumes and instances change
pub stack_changes : (w : World) (t : StackWorld) → IsStack t → Follows w.stack t → KeepsWorkers w.stack t → IsUnderWay w → IsUnderWay (record w { stack = t })
stack_changes w t stack follows still h = record {
  stack = stack;
  flow = h.flow;
  among = λ k d l. among_follows w.stack t _ _ _ _ _ _ follows (h.among k d l);
  hands = h.hands;
  workers = h.workers;
  drains = h.drains;
  instance_callbacks = λ d i. still d i (count_by (is_at d i) w.workers) (h.instance_callbacks d i);
}

-- and a worker moves outside of operations
pub worker_moves : (w : World) (t : StackWorld) (k : WorkerId) (a b : Place) → worker_at w.workers k ≡ Some a → Outside a → Outside b
    → IsStack t → Follows w.stack t
    → ((d : InstanceCallback) (i : ℕ) → HasWorkers d (slice_get t.instances i) (count_by (is_at d i) (put w.workers k b))) → IsUnderWay w
    → IsUnderWay (record w { stack = t; workers = put w.workers k b })
worker_moves w t k a b at from to stack follows instance_callbacks h = record {
  stack = stack;
  flow = h.flow;
  among = λ k d l. among_follows w.stack t _ _ _ _ _ _ follows (h.among k d l);
  hands = length-set w.workers k.0 b ∙ h.hands;
  workers = λ o spot. count_stays (is_in_at o spot) w.workers k a b at (from.spots o spot) (to.spots o spot) ∙ h.workers o spot;
  drains = λ o i. count_stays (is_in_drain o i) w.workers k a b at (from.drains o i) (to.drains o i) ∙ h.drains o i;
  instance_callbacks = instance_callbacks;
}

-- ---- callbacks of an instance

-- of callbacks that don't belong to an operation, the worker is in that instance's alone, if in any
abbrev pub InOwnCallback : ℕ → Place → Type 0
InOwnCallback i a = (d : InstanceCallback) (j : ℕ) → j ≢ i → is_at d j a ≡ false

in_own_callback : (a : Place) (i : InstanceId) → own_callback_of a ≡ Some i → InOwnCallback i.0 a
in_own_callback a i h d j apart = grind (arith, ne_eqb)

-- who is in callbacks of an instance, where one worker goes elsewhere
abbrev pub MovesWorkers : ℕ → Place → Place → Option Instance → Option Instance → Type 0
MovesWorkers i a b x y = (d : InstanceCallback) (n m : ℕ) → m + one (is_at d i a) ≡ n + one (is_at d i b) → HasWorkers d x n → HasWorkers d y m

-- one instance changes perhaps, and one worker goes into a callback of it or comes out of it
pub workers_move : (w : World) (t : StackWorld) (k : WorkerId) (a b : Place) (i : ℕ) → worker_at w.workers k ≡ Some a → InOwnCallback i a → InOwnCallback i b
    → ((j : ℕ) → j ≢ i → slice_get t.instances j ≡ slice_get w.stack.instances j)
    → ((d : InstanceCallback) (m : ℕ) → m ≤ 48 → m + one (is_at d i a) ≡ count_by (is_at d i) w.workers + one (is_at d i b)
    → HasWorkers d (slice_get t.instances i) m) → IsUnderWay w
    → (d : InstanceCallback) (j : ℕ) → HasWorkers d (slice_get t.instances j) (count_by (is_at d j) (put w.workers k b))
workers_move w t k a b i at from to others here s d j = elim (cases_eq j i) [
  | inl is ↦
      subst (λ x. HasWorkers d (slice_get t.instances x) (count_by (is_at d x) (put w.workers k b))) (sym is)
      (here d (count_by (is_at d i) (put w.workers k b)) (few_at d) (count_moves (is_at d i) w.workers k a b at))
  | inr apart ↦
      subst (λ m. HasWorkers d m (count_by (is_at d j) (put w.workers k b))) (sym (others j apart))
      (subst (HasWorkers d (slice_get w.stack.instances j)) (sym (count_stays (is_at d j) w.workers k a b at (from d j apart) (to d j apart))) (s.instance_callbacks d j))
]
  where
    few_at : (d : InstanceCallback) → count_by (is_at d i) (put w.workers k b) ≤ 48
    few_at d = omega (arith, count_by-le-length (is_at d i) (put w.workers k b), length-set w.workers k.0 b, s.hands)

-- the instance whose callback a worker is in is there, and may have it there
pub callback_place : (w : World) (k : WorkerId) (a : Place) (d : InstanceCallback) (i : InstanceId) → IsUnderWay w → worker_at w.workers k ≡ Some a → is_at d i.0 a ≡ true
    → (row : Instance) × (slice_get w.stack.instances i.0 ≡ Some row) × (1 ≤ most_at d row)
callback_place w k a d i s at is =
    let inside = count-some (is_at d i.0) w.workers k.0 a at is in
    by_option (λ m. HasWorkers d m (count_by (is_at d i.0) w.workers) → (row : Instance) × (m ≡ Some row) × (1 ≤ most_at d row))
    (slice_get w.stack.instances i.0)
    (λ none h. absurd (omega (arith, inside, h))) (λ row there h. (row, refl, omega (arith, inside, h.1))) (s.instance_callbacks d i.0)

-- ---- attach

others_push : {A : Type 0} (xs : List A) (x : A) (j : ℕ) → j ≢ length xs → slice_get (xs ++ x ∷ []) j ≡ slice_get xs j
others_push [] x zero apart = absurd (apart refl)
others_push [] x (suc j) apart = refl
others_push (y ∷ xs) x zero apart = refl
others_push (y ∷ xs) x (suc j) apart = others_push xs x j (λ e. apart (ap suc e))

none_behind : {A : Type 0} (xs : List A) → slice_get xs (length xs) ≡ None
none_behind [] = refl
none_behind (x ∷ xs) = none_behind xs

attach_workers : (f : FilterId) (v : VolumeId) (name altitude : List ℕ) (i : InstanceId) (d : InstanceCallback) (n m : ℕ)
    → m + one (is_at d i.0 Place.Idle) ≡ n + one (is_at d i.0 (Place.Setup i))
    → n ≡ 0 → HasWorkers d (Some (stack.new_instance f v name altitude)) m
attach_workers f v name altitude i d n m moves none = grind (arith, eq-eqb)

pub attach_keeps : (old : World) (k : WorkerId) (f : FilterId) (v : VolumeId) (name altitude : List ℕ) (i : InstanceId)
    → worker_at old.workers k ≡ Some Place.Idle
    → first_of (stack.attach_refusals old.stack f v name altitude) ≡ None → i.0 ≡ length old.stack.instances → IsUnderWay old
    → IsUnderWay (record old { stack = stack.attached old.stack f v name altitude; workers = put old.workers k (Place.Setup i) })
attach_keeps old k f v name altitude i idle free is s =
    let t = stack.attached old.stack f v name altitude in
    let rows = old.stack.instances in
    let row = stack.new_instance f v name altitude in
    let none : slice_get rows i.0 ≡ None = ap (slice_get rows) is ∙ none_behind rows in
    let here : slice_get t.instances i.0 ≡ Some row = ap (slice_get t.instances) is ∙ slice_get-push rows row in
    worker_moves old t k Place.Idle (Place.Setup i) idle (outside_of Place.Idle refl) (outside_of (Place.Setup i) refl)
    (attached_keeps old.stack f v name altitude s.stack free) (attached_follows old.stack f v name altitude s.stack)
    (workers_move old t k Place.Idle (Place.Setup i) i.0 idle (λ d j _. at_none Place.Idle refl d j) (in_own_callback (Place.Setup i) i refl)
    (λ j apart. others_push rows row j (λ e. apart (e ∙ sym is)))
    (λ d m few moves. subst (λ o. HasWorkers d o m) (sym here)
    (attach_workers f v name altitude i d (count_by (is_at d i.0) old.workers) m moves
    (subst (λ o. HasWorkers d o (count_by (is_at d i.0) old.workers)) none (s.instance_callbacks d i.0)))) s)
    s

-- ---- one instance changes, and a worker goes into a callback of it or comes out of it

-- x is the instance, y what becomes of it; all others stay
pub record RowChanges (s t : StackWorld) (i : ℕ) (x y : Instance) : Type 0 where
  pub was : slice_get s.instances i ≡ Some x
  pub now : slice_get t.instances i ≡ Some y
  pub others : (j : ℕ) → j ≢ i → slice_get t.instances j ≡ slice_get s.instances j

pub row_updated : (s t : StackWorld) (change : Instance → Instance) (i : ℕ) (row : Instance)
    → t.instances ≡ updated change s.instances i → slice_get s.instances i ≡ Some row
    → RowChanges s t i row (change row)
row_updated s t change i row is there = record {
  was = there;
  now = ap (λ (xs : List Instance). slice_get xs i) is ∙ updated-same change s.instances i row there;
  others = λ j apart. ap (λ (xs : List Instance). slice_get xs j) is ∙ updated-other change s.instances i j apart;
}

pub row_stays : (s : StackWorld) (i : ℕ) (row : Instance) → slice_get s.instances i ≡ Some row → RowChanges s s i row row
row_stays s i row there = record { was = there; now = there; others = λ j apart. refl }

pub callback_moves : (old : World) (k : WorkerId) (a b : Place) (i : InstanceId) (t : StackWorld) (x y : Instance) → worker_at old.workers k ≡ Some a
    → Outside a → Outside b → InOwnCallback i.0 a → InOwnCallback i.0 b → RowChanges old.stack t i.0 x y
    → ((d : InstanceCallback) (m : ℕ) → m ≤ 48 → m + one (is_at d i.0 a) ≡ count_by (is_at d i.0) old.workers + one (is_at d i.0 b)
    → HasWorkers d (Some x) (count_by (is_at d i.0) old.workers) → HasWorkers d (Some y) m)
    → IsStack t → Follows old.stack t → IsUnderWay old → IsUnderWay (record old { stack = t; workers = put old.workers k b })
callback_moves old k a b i t x y at from to off on row here stack follows s =
    worker_moves old t k a b at from to stack follows
    (workers_move old t k a b i.0 at off on row.others
    (λ d m few moves. subst (λ o. HasWorkers d o m) (sym row.now)
    (here d m few moves (subst (λ o. HasWorkers d o (count_by (is_at d i.0) old.workers)) row.was (s.instance_callbacks d i.0)))) s)
    s

-- a callback is entered
pub callback_enters : (old : World) (k : WorkerId) (b : Place) (i : InstanceId) (t : StackWorld) (x y : Instance) → worker_at old.workers k ≡ Some Place.Idle
    → is_outside b ≡ true → own_callback_of b ≡ Some i → RowChanges old.stack t i.0 x y
    → ((d : InstanceCallback) (m : ℕ) → m ≤ 48 → m + one (is_at d i.0 Place.Idle) ≡ count_by (is_at d i.0) old.workers + one (is_at d i.0 b)
    → HasWorkers d (Some x) (count_by (is_at d i.0) old.workers) → HasWorkers d (Some y) m)
    → IsStack t → Follows old.stack t → IsUnderWay old → IsUnderWay (record old { stack = t; workers = put old.workers k b })
callback_enters old k b i t x y at outside own row here stack follows s =
    callback_moves old k Place.Idle b i t x y at (outside_of Place.Idle refl) (outside_of b outside) (λ d j _. at_none Place.Idle refl d j)
    (in_own_callback b i own) row here stack follows s

-- a callback returns
pub callback_ends : (old : World) (k : WorkerId) (a : Place) (i : InstanceId) (t : StackWorld) (x y : Instance) → worker_at old.workers k ≡ Some a
    → is_outside a ≡ true → own_callback_of a ≡ Some i → RowChanges old.stack t i.0 x y → MovesWorkers i.0 a Place.Idle (Some x) (Some y)
    → IsStack t → Follows old.stack t → IsUnderWay old → IsUnderWay (record old { stack = t; workers = put old.workers k Place.Idle })
callback_ends old k a i t x y at outside own row still_right stack follows s =
    callback_moves old k a Place.Idle i t x y at (outside_of a outside) (outside_of Place.Idle refl) (in_own_callback a i own) (λ d j _. at_none Place.Idle refl d j) row
    (λ d m few moves h. still_right d (count_by (is_at d i.0) old.workers) m moves h) stack follows s

-- ---- the end of a setup callback

-- the instance that a worker's setup callback is of is there, in its setup
pub setup_place : (w : World) (k : WorkerId) (i : InstanceId) → IsUnderWay w → worker_at w.workers k ≡ Some (Place.Setup i)
    → (row : Instance) × (slice_get w.stack.instances i.0 ≡ Some row) × (is_setup row.phase ≡ true)
setup_place w k i s at =
    let place = callback_place w k (Place.Setup i) AtSetup i s at (eq-eqb i.0 i.0 refl) in
    (place.0, place.1, one_true (is_setup place.0.phase) place.2)

accepted_workers : (births : ℕ) (i : InstanceId) (row : Instance) → is_setup row.phase ≡ true
    → MovesWorkers i.0 (Place.Setup i) Place.Idle (Some row) (Some (accept_row births row))
accepted_workers births i row was d n m moves h = grind (arith, eq-eqb)

refused_workers : (i : InstanceId) (row : Instance) → is_setup row.phase ≡ true → MovesWorkers i.0 (Place.Setup i) Place.Idle (Some row) (Some (refuse_row row))
refused_workers i row was d n m moves h = grind (arith, eq-eqb)

-- the callback returns, and the instance leaves its setup
setup_ends : (old : World) (k : WorkerId) (i : InstanceId) (t : StackWorld) (change : Instance → Instance) (row : Instance) (new : World)
    → worker_at old.workers k ≡ Some (Place.Setup i) → slice_get old.stack.instances i.0 ≡ Some row
    → MovesWorkers i.0 (Place.Setup i) Place.Idle (Some row) (Some (change row))
    → t.instances ≡ updated change old.stack.instances i.0 → IsStack t → Follows old.stack t → new.stack ≡ t
    → new ≡ record old { stack = new.stack; workers = put old.workers k Place.Idle; contexts = new.contexts } → IsUnderWay old → IsUnderWay new
setup_ends old k i t change row new at there still_right rows stack follows made e s =
    subst IsUnderWay (sym (e ∙ ap (λ x. record old { stack = x; workers = put old.workers k Place.Idle; contexts = new.contexts }) made))
    (callback_ends old k (Place.Setup i) i t row (change row) at refl refl (row_updated old.stack t change i.0 row rows there) still_right stack follows s)

pub setup_keeps : (old : World) (k : WorkerId) (i : InstanceId) (accept : Bool) (result : Result (Unit {0}) Status) (new : World)
    → worker_at old.workers k ≡ Some (Place.Setup i) → stack.SetsUp old.stack i accept result new.stack
    → new ≡ record old { stack = new.stack; workers = put old.workers k Place.Idle; contexts = new.contexts } → IsUnderWay old → IsUnderWay new
unfolding stack.SetsUp
setup_keeps old k i accept (Ok done) new at h e s =
    let row = setup_place old k i s at in
    setup_ends old k i (stack.accepted old.stack i) (accept_row old.stack.births) row.0 new at row.1 (accepted_workers old.stack.births i row.0 row.2) refl
    (accepted_keeps old.stack i s.stack row.0 row.1 row.2) (accepted_follows old.stack i s.stack row.0 row.1 row.2) h.1 e s
setup_keeps old k i accept (Err why) new at h e s =
    let row = setup_place old k i s at in
    setup_ends old k i (stack.refused old.stack i) refuse_row row.0 new at row.1 (refused_workers i row.0 row.2) refl
    (refused_keeps old.stack i s.stack row.0 row.1 row.2) (refused_follows old.stack i s.stack row.0 row.1 row.2) h.1 e s
