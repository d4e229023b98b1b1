-- What the events by which an instance is detached do: its filter is asked, its teardown starts and is completed.
use Rattle.fm_world.proofs.Words.{goes_on_follows, goes_on_keeps, Filter, Volume, none_refuses, hand_len, left_by, holds_links_by, is_flown, row_at, IsSound}
use Rattle.fm_world.proofs.Words.{HasWorkers, IsUnderWay, is_made, AsksDetach, CompleteReturns, CompleteReturnsAt, CompletesTeardown, QueryReturns}
use Rattle.fm_world.proofs.Words.{QueryReturnsAt, StartReturns, StartReturnsAt, StartsTeardown, Instance, InstanceId, Leaves, Phase, StackWorld, Status}
use Rattle.fm_world.proofs.Words.{WorkerId, in_flight, is_attached, is_completing, is_stopping, one, AtComplete, AtQuery, AtRoutine, AtStart}
use Rattle.fm_world.proofs.Words.{InstanceCallback, routines_at, unfinished_at, ◌≤◌}
use Rattle.fm_world.proofs.Words.{after_entering, cleanup_in, is_at, is_queried, put, worker_at, World, carries, Place, Bool, Err, List, None, Ok, Option}
use Rattle.fm_world.proofs.Words.{Result, Some, ap, arith, count_by, false, inr, length, not, refl, slice_get, subst, sym, true, ℕ, ◌&&◌, ◌+◌, ◌∙◌, ◌≡◌, eq-eqb}
use Rattle.fm_world.proofs.Words.{ltb-false, or_parts, true≢false}
use Rattle.fm_operations.specs.Initiators.{begun_by}
use Rattle.fm_stack.proofs.GoingOn.{passes_row}
use Rattle.fm_stack.proofs.Teardowns.{completing_goes_on, emptying_goes_on, started_goes_on, starting_goes_on, stopped_goes_on}
use Rattle.fm_stack.specs.Instances.{passes}
use Rattle.fm_stack.specs.declared.instance.StartMark.{StartMark}
use Rattle.fm_world.proofs.Asking.{left_asks}
use Rattle.fm_world.proofs.Callbacks.{not_false}
use Rattle.fm_world.proofs.Cases.{none_any, one_true}
use Rattle.fm_world.proofs.Events.{answers_by, idle_by}
use Rattle.fm_world.proofs.Keeps.{MovesWorkers, callback_enters, callback_place, callback_ends, follows_same, row_stays, row_updated}
use Rattle.fm_world.proofs.Owning.{GoesOnAt, RowsGoOn, emptied_left, emptied_owned, goes_owned, goes_same, returns_owned, row_goes, rows_left, rows_same}
use Rattle.fm_world.proofs.Staying.{Does, SlotsStay, hand_emptied, lasts, makes, nothing, slots_swept, still, table_after, table_same, unchanged}
use Rattle.fm_stack.specs.Detaching as stack

-- ---- the instance whose callback a worker is in

pub query_place : (w : World) (k : WorkerId) (i : InstanceId) → IsUnderWay w → worker_at w.workers k ≡ Some (Place.Query i)
    → (row : Instance) × (slice_get w.stack.instances i.0 ≡ Some row) × (is_flown row.phase ≡ true)
query_place w k i s at =
    let place = callback_place w k (Place.Query i) AtQuery i s at (eq-eqb i.0 i.0 refl) in
    (place.0, place.1, one_true (is_flown place.0.phase) place.2)

pub start_place : (w : World) (k : WorkerId) (i : InstanceId) → IsUnderWay w → worker_at w.workers k ≡ Some (Place.Start i)
    → (row : Instance) × (slice_get w.stack.instances i.0 ≡ Some row) × (is_stopping row.phase && is_made row.start ≡ true)
start_place w k i s at =
    let place = callback_place w k (Place.Start i) AtStart i s at (eq-eqb i.0 i.0 refl) in
    (place.0, place.1, one_true (is_stopping place.0.phase && is_made place.0.start) place.2)

pub complete_place : (w : World) (k : WorkerId) (i : InstanceId) → IsUnderWay w → worker_at w.workers k ≡ Some (Place.Complete i)
    → (row : Instance) × (slice_get w.stack.instances i.0 ≡ Some row) × (is_completing row.phase ≡ true)
complete_place w k i s at =
    let place = callback_place w k (Place.Complete i) AtComplete i s at (eq-eqb i.0 i.0 refl) in
    (place.0, place.1, one_true (is_completing place.0.phase) place.2)

-- ---- the filter is asked

not_queried : (i : InstanceId) (workers : List Place) → is_queried i workers ≡ false → count_by (is_at AtQuery i.0) workers ≡ 0
not_queried i workers h = none_any (is_at AtQuery i.0) workers h

-- nobody is in a query of the instance, which is attached, and one comes to be
asks_workers : (i : InstanceId) (row : Instance) (d : InstanceCallback) (workers : List Place) (m : ℕ) → is_attached row.phase ≡ true
    → count_by (is_at AtQuery i.0) workers ≡ 0
    → m + one (is_at d i.0 Place.Idle) ≡ count_by (is_at d i.0) workers + one (is_at d i.0 (Place.Query i))
    → HasWorkers d (Some row) (count_by (is_at d i.0) workers)
    → HasWorkers d (Some row) m
asks_workers i row AtQuery workers m is none moves h = grind (arith, eq-eqb)
asks_workers i row d workers m is none moves h = grind arith

pub ask_detach_does : (old : World) (k : WorkerId) (i : InstanceId) (result : Result (Unit {0}) Status) (new : World)
    → AsksDetach old k i result new → Does old new
unfolding AsksDetach
ask_detach_does old k i result new h =
    idle_by (λ _ w. Does old w) k result old new _ h (λ why. nothing old) (λ at event.
    answers_by (λ _ w. Does old w) _ result old new _ event (λ why. nothing old) (λ done free e.
    let asked = is_queried i old.workers in
    let uses = passes stack.is_in_use (row_at old.stack i) in
    let tests = or_parts (not uses) asked (none_refuses (stack.ask_detach_refusals old.stack i asked) free).1.0 in
    let row = passes_row stack.is_in_use (row_at old.stack i) (not_false uses tests.0) in
    makes old (record old { workers = put old.workers k (Place.Query i) }) new e (still old.contexts) (λ s. record {
      under_way = callback_enters old k (Place.Query i) i old.stack row.0 row.0 at refl refl (row_stays old.stack i.0 row.0 row.1)
          (λ d m few moves h. asks_workers i row.0 d old.workers m row.2 (not_queried i old.workers tests.1) moves h) s.under_way.stack
          (follows_same old.stack) s.under_way;
      owned = goes_owned old k Place.Idle (Place.Query i) old.stack at refl refl refl (rows_same old old.stack refl) (omega arith) (λ v h. h) s;
      begun = s.begun;
      filed = s.filed;
      links = s.links;
    })))

-- ---- a callback returns

-- and its instance goes on; what its worker held is gone
pub ends : (old new : World) (k : WorkerId) (a : Place) (t : StackWorld) → worker_at old.workers k ≡ Some a → cleanup_in (Some a) ≡ None
    → Leaves (carries old) old.contexts new.contexts k.0 → new ≡ record old { stack = t; workers = put old.workers k Place.Idle; contexts = new.contexts }
    → t.filters ≡ old.stack.filters → t.volumes ≡ old.stack.volumes
    → (IsSound old → RowsGoOn old t × IsUnderWay (record old { stack = t; workers = put old.workers k Place.Idle }))
    → Does old new × (hand_len k.0 new ≡ 0)
ends old new k a t at na leaves e filters volumes keeps = (
  record {
    sound = λ s.
        let on = keeps s in
        let owned = returns_owned old k a t new.contexts at na on.0 (omega (arith, ap (λ (xs : List Filter). length xs) filters))
        (λ v h. ap (λ (xs : List Volume). holds_links_by (slice_get xs v)) volumes ∙ h) leaves s in
        subst IsSound (sym e) (record {
          under_way = on.1;
          owned = owned.0;
          begun = left_asks old.stack t old.flow (rows_left old t on.0) s.begun;
          filed = s.filed;
          links = owned.1;
        });
    lasts = λ s. lasts old new new.contexts refl (table_same old.contexts new.contexts leaves.slots leaves.cleaning);
  },
  (hand_emptied k.0 old new leaves.hands).1,
)

-- ---- the filter answered

query_workers : (i : InstanceId) (row : Instance) → MovesWorkers i.0 (Place.Query i) Place.Idle (Some row) (Some row)
query_workers i row AtQuery n m moves h = grind (arith, eq-eqb)
query_workers i row d n m moves h = grind arith

stop_workers : (i : InstanceId) (row : Instance) → is_attached row.phase ≡ true → MovesWorkers i.0 (Place.Query i) Place.Idle (Some row) (Some (stack.stop_row row))
stop_workers i row was AtQuery n m moves h = grind (arith, eq-eqb)
stop_workers i row was d n m moves h = grind arith

pub stop_goes : (w : World) (j : ℕ) (row : Instance) → GoesOnAt w j row (stack.stop_row row)
stop_goes w j row = record { filter = refl; left = λ h. refl; keeps = λ h. refl; quiet = λ h. absurd (true≢false h) }

pub query_does : (old : World) (k : WorkerId) (allow : Bool) (result : Result (Unit {0}) Status) (new : World) → QueryReturns old k allow result new
    → Does old new × (hand_len k.0 new ≡ left_by AtQuery (worker_at old.workers k) (hand_len k.0 old))
unfolding QueryReturns stack.QueryReturns
query_does old k allow result new h = by_place (worker_at old.workers k) refl h
  where
    made : (i : InstanceId) (t : StackWorld) → new.stack ≡ t
        → new ≡ record old { stack = new.stack; workers = put old.workers k Place.Idle; contexts = new.contexts }
        → new ≡ record old { stack = t; workers = put old.workers k Place.Idle; contexts = new.contexts }
    made i t is e = e ∙ ap (λ x. record old { stack = x; workers = put old.workers k Place.Idle; contexts = new.contexts }) is

    by_result : (i : InstanceId) (result : Result (Unit {0}) Status) → worker_at old.workers k ≡ Some (Place.Query i)
        → QueryReturnsAt old k allow result new (Some (Place.Query i))
        → Does old new × (hand_len k.0 new ≡ 0)
    by_result i (Err why) at h = ends old new k (Place.Query i) old.stack at refl h.1 (made i old.stack h.0.1 h.2) refl refl (λ s.
        let place = query_place old k i s.under_way at in (
          rows_same old old.stack refl,
          callback_ends old k (Place.Query i) i old.stack place.0 place.0 at refl refl (row_stays old.stack i.0 place.0 place.1) (query_workers i place.0)
              s.under_way.stack (follows_same old.stack) s.under_way,
        ))
    by_result i (Ok done) at h =
        let t = stack.stopped old.stack i in
        let uses = passes stack.is_in_use (row_at old.stack i) in
        let used = not_false uses (none_refuses (stack.query_refusals old.stack i allow) h.0.0).1.0 in
        let row = passes_row stack.is_in_use (row_at old.stack i) used in
        let goes = stopped_goes_on old.stack i used in
        let changes = row_updated old.stack t stack.stop_row i.0 row.0 refl row.1 in
        ends old new k (Place.Query i) t at refl h.1 (made i t h.0.1 h.2) refl refl (λ s. (
          row_goes old t i.0 row.0 (stack.stop_row row.0) changes (stop_goes old i.0 row.0),
          callback_ends old k (Place.Query i) i t row.0 (stack.stop_row row.0) at refl refl changes (stop_workers i row.0 row.2)
              (goes_on_keeps old.stack t goes s.under_way.stack) (goes_on_follows old.stack t goes) s.under_way,
        ))

    by_place : (m : Option Place) → worker_at old.workers k ≡ m → QueryReturnsAt old k allow result new m
        → Does old new × (hand_len k.0 new ≡ left_by AtQuery m (hand_len k.0 old))
    by_place (Some (Place.Query i)) at h = by_result i result at h
    by_place _ at h = (unchanged old new h.1, ap (hand_len k.0) h.1)

-- ---- the teardown starts

start_workers : (i : InstanceId) (row : Instance) → stack.is_to_start row ≡ true → (d : InstanceCallback) (n m : ℕ)
    → m + one (is_at d i.0 Place.Idle) ≡ n + one (is_at d i.0 (Place.Start i))
    → HasWorkers d (Some row) n → HasWorkers d (Some (stack.with_start StartMark.Made row)) m
start_workers i row is AtStart n m moves h = grind (arith, eq-eqb)
start_workers i row is d n m moves h = grind arith

pub start_teardown_does : (old : World) (k : WorkerId) (i : InstanceId) (result : Result (Unit {0}) Status) (new : World)
    → StartsTeardown old k i result new → Does old new
unfolding StartsTeardown stack.StartsTeardown
start_teardown_does old k i result new h =
    idle_by (λ _ w. Does old w) k result old new _ h (λ why. nothing old) (λ at event. by_result result at event.0 event.1)
  where
    by_result : (result : Result (Unit {0}) Status) → worker_at old.workers k ≡ Some Place.Idle → stack.StartsTeardown old.stack i result new.stack
        → new ≡ record old { stack = new.stack; workers = after_entering old.workers k (Place.Start i) result } → Does old new
    by_result (Err why) at h e = unchanged old new (e ∙ ap (λ x. record old { stack = x }) h.1)
    by_result (Ok done) at h e =
        let t = stack.starting old.stack i in
        let change = stack.with_start StartMark.Made in
        let starts = passes stack.is_to_start (row_at old.stack i) in
        let row = passes_row stack.is_to_start (row_at old.stack i) (not_false starts (none_refuses (stack.start_refusals old.stack i) h.0).1.0) in
        let goes = starting_goes_on old.stack i in
        let changes = row_updated old.stack t change i.0 row.0 refl row.1 in
        makes old (record old { stack = t; workers = put old.workers k (Place.Start i) }) new
        (e ∙ ap (λ x. record old { stack = x; workers = put old.workers k (Place.Start i) }) h.1) (still old.contexts) (λ s. record {
          under_way = callback_enters old k (Place.Start i) i t row.0 (change row.0) at refl refl changes
              (λ d m few moves h. start_workers i row.0 row.2 d (count_by (is_at d i.0) old.workers) m moves h)
              (goes_on_keeps old.stack t goes s.under_way.stack) (goes_on_follows old.stack t goes) s.under_way;
          owned = goes_owned old k Place.Idle (Place.Start i) t at refl refl refl
              (row_goes old t i.0 row.0 (change row.0) changes (goes_same old i.0 row.0 (change row.0) refl refl)) (omega arith) (λ v h. h) s;
          begun = left_asks old.stack t old.flow
              (rows_left old t (row_goes old t i.0 row.0 (change row.0) changes (goes_same old i.0 row.0 (change row.0) refl refl))) s.begun;
          filed = s.filed;
          links = s.links;
        })

started_workers : (i : InstanceId) (row : Instance) → MovesWorkers i.0 (Place.Start i) Place.Idle (Some row) (Some (stack.with_start StartMark.Returned row))
started_workers i row AtStart n m moves h = grind (arith, eq-eqb)
started_workers i row d n m moves h = grind arith

pub start_returned_does : (old : World) (k : WorkerId) (result : Result (Unit {0}) Status) (new : World) → StartReturns old k result new
    → Does old new × (hand_len k.0 new ≡ left_by AtStart (worker_at old.workers k) (hand_len k.0 old))
unfolding StartReturns
start_returned_does old k result new h = by_place (worker_at old.workers k) refl h
  where
    by_place : (m : Option Place) → worker_at old.workers k ≡ m → StartReturnsAt old k result new m
        → Does old new × (hand_len k.0 new ≡ left_by AtStart m (hand_len k.0 old))
    by_place (Some (Place.Start i)) at h =
        let t = stack.started old.stack i in
        let change = stack.with_start StartMark.Returned in
        let goes = started_goes_on old.stack i in
        ends old new k (Place.Start i) t at refl h.1 h.2 refl refl (λ s.
        let row = start_place old k i s.under_way at in
        let changes = row_updated old.stack t change i.0 row.0 refl row.1 in (
          row_goes old t i.0 row.0 (change row.0) changes (goes_same old i.0 row.0 (change row.0) refl refl),
          callback_ends old k (Place.Start i) i t row.0 (change row.0) at refl refl changes (started_workers i row.0)
              (goes_on_keeps old.stack t goes s.under_way.stack) (goes_on_follows old.stack t goes) s.under_way,
        ))
    by_place _ at h = (unchanged old new h.1, ap (hand_len k.0) h.1)

-- ---- the teardown is completed

-- the start returned, and nobody is in a query, nor in a routine
complete_workers : (i : InstanceId) (row : Instance) (d : InstanceCallback) (workers : List Place) (m : ℕ) → stack.is_to_complete row ≡ true
    → count_by (is_at AtQuery i.0) workers ≡ 0 → count_by (is_at AtRoutine i.0) workers ≡ 0
    → m + one (is_at d i.0 Place.Idle) ≡ count_by (is_at d i.0) workers + one (is_at d i.0 (Place.Complete i))
    → HasWorkers d (Some row) (count_by (is_at d i.0) workers)
    → HasWorkers d (Some (stack.in_phase Phase.Completing row)) m
complete_workers i row AtComplete workers m is none rest moves h = grind (arith, eq-eqb)
complete_workers i row d workers m is none rest moves h = grind arith

-- nothing is in flight at it
complete_goes : (w : World) (j : ℕ) (row : Instance) → in_flight j w.flow ≡ 0 → GoesOnAt w j row (stack.in_phase Phase.Completing row)
complete_goes w j row none = record { filter = refl; left = λ h. refl; keeps = λ h. refl; quiet = λ h. inr none }

none_left : (n b m : ℕ) → n + b + m ≤ 0 → (n ≡ 0) × (m ≡ 0)
none_left n b m h = (omega (arith, h), omega (arith, h))

pub complete_teardown_does : (old : World) (k : WorkerId) (i : InstanceId) (result : Result (Unit {0}) Status) (new : World)
    → CompletesTeardown old k i result new → Does old new
unfolding CompletesTeardown stack.CompletesTeardown
complete_teardown_does old k i result new h =
    idle_by (λ _ w. Does old w) k result old new _ h (λ why. nothing old) (λ at event. by_result result at event.0 event.1)
  where
    by_result : (result : Result (Unit {0}) Status) → worker_at old.workers k ≡ Some Place.Idle
        → stack.CompletesTeardown old.stack i (is_queried i old.workers) (unfinished_at old i) result new.stack
        → new ≡ record old { stack = new.stack; workers = after_entering old.workers k (Place.Complete i) result } → Does old new
    by_result (Err why) at h e = unchanged old new (e ∙ ap (λ x. record old { stack = x }) h.1)
    by_result (Ok done) at h e =
        let t = stack.completing old.stack i in
        let change = stack.in_phase Phase.Completing in
        let asked = is_queried i old.workers in
        let completes = passes stack.is_to_complete (row_at old.stack i) in
        let frees = none_refuses (stack.complete_refusals old.stack i asked (unfinished_at old i)) h.0 in
        let tests = or_parts (not completes) asked frees.1.0 in
        let row = passes_row stack.is_to_complete (row_at old.stack i) (not_false completes tests.0) in
        let goes = completing_goes_on old.stack i (not_false completes tests.0) in
        let changes = row_updated old.stack t change i.0 row.0 refl row.1 in
        let none = none_left (in_flight i.0 old.flow) (begun_by i.0 old.flow) (routines_at i old.workers) (ltb-false 0 (unfinished_at old i) frees.1.1.0) in
        makes old (record old { stack = t; workers = put old.workers k (Place.Complete i) }) new
        (e ∙ ap (λ x. record old { stack = x; workers = put old.workers k (Place.Complete i) }) h.1) (still old.contexts) (λ s. record {
          under_way = callback_enters old k (Place.Complete i) i t row.0 (change row.0) at refl refl changes
              (λ d m few moves h. complete_workers i row.0 d old.workers m row.2 (not_queried i old.workers tests.1) none.1 moves h)
              (goes_on_keeps old.stack t goes s.under_way.stack) (goes_on_follows old.stack t goes) s.under_way;
          owned = goes_owned old k Place.Idle (Place.Complete i) t at refl refl refl
              (row_goes old t i.0 row.0 (change row.0) changes (complete_goes old i.0 row.0 none.0)) (omega arith) (λ v h. h) s;
          begun = left_asks old.stack t old.flow
              (rows_left old t (row_goes old t i.0 row.0 (change row.0) changes (complete_goes old i.0 row.0 none.0))) s.begun;
          filed = s.filed;
          links = s.links;
        })

empty_workers : (i : InstanceId) (row : Instance) → is_completing row.phase ≡ true
    → MovesWorkers i.0 (Place.Complete i) Place.Idle (Some row) (Some (stack.in_phase Phase.Emptying row))
empty_workers i row is AtComplete n m moves h = grind (arith, eq-eqb)
empty_workers i row is d n m moves h = grind arith

completing_rests : (p : Phase) → is_completing p ≡ true → is_flown p ≡ false
completing_rests p h = grind arith

pub complete_returned_does : (old : World) (k : WorkerId) (result : Result (Unit {0}) Status) (new : World) → CompleteReturns old k result new
    → Does old new × (hand_len k.0 new ≡ left_by AtComplete (worker_at old.workers k) (hand_len k.0 old))
unfolding CompleteReturns
complete_returned_does old k result new h = by_place (worker_at old.workers k) refl h
  where
    by_place : (m : Option Place) → worker_at old.workers k ≡ m → CompleteReturnsAt old k result new m
        → Does old new × (hand_len k.0 new ≡ left_by AtComplete m (hand_len k.0 old))
    by_place (Some (Place.Complete i)) at h =
        let t = stack.emptying old.stack i in
        let change = stack.in_phase Phase.Emptying in (
          record {
            sound = λ s.
                let row = complete_place old k i s.under_way at in
                let goes = emptying_goes_on old.stack i (ap (passes stack.is_in_complete) row.1 ∙ row.2) in
                let owned = emptied_owned old k (Place.Complete i) i row.0 h.1 new.contexts at refl row.1 (completing_rests row.0.phase row.2) h.2 h.3 s in
                subst IsSound (sym h.4) (record {
                  under_way = callback_ends old k (Place.Complete i) i t row.0 (change row.0) at refl refl (row_updated old.stack t change i.0 row.0 refl row.1)
                      (empty_workers i row.0 row.2) (goes_on_keeps old.stack t goes s.under_way.stack) (goes_on_follows old.stack t goes) s.under_way;
                  owned = owned.0;
                  begun = left_asks old.stack t old.flow (λ j. emptied_left old.stack i j row.0 row.1) s.begun;
                  filed = s.filed;
                  links = owned.1;
                });
            lasts = λ s. lasts old new new.contexts refl
                (table_after old.contexts h.1 new.contexts (table_same old.contexts h.1 h.2.slots h.2.cleaning)
                (subst (SlotsStay h.1.slots) (sym h.3.slots) (slots_swept _ h.1.slots), h.3.cleaning));
          },
          (hand_emptied k.0 old new (h.3.hands ∙ h.2.hands)).1,
        )
    by_place _ at h = (unchanged old new h.1, ap (hand_len k.0) h.1)
