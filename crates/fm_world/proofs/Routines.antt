-- What the events of routines do: a worker goes into a routine of an instance, and comes out of it.
use Rattle.fm_world.proofs.Words.{none_refuses, hand_len, left_by, is_flown, is_flown_by, row_at, HasWorkers, IsUnderWay, EntersRoutine, RoutineReturns}
use Rattle.fm_world.proofs.Words.{RoutineReturnsAt, file_by, routine_refusals, HandleId, Instance, InstanceId, Status, WorkerId, one, AtRoutine, InstanceCallback}
use Rattle.fm_world.proofs.Words.{is_at, put, worker_at, World, FileObject, Place, Bool, Option, Result, Some, ap, arith, cond, count_by, not, refl, slice_get, true, ℕ}
use Rattle.fm_world.proofs.Words.{◌&&◌, ◌+◌, ◌∷◌, ◌≡◌, ◌≤◌, eq-eqb, flight, total, count-cons, FlowRecord, All, List, [], All-head, All-tail, unfinished_at}
use Rattle.fm_world.proofs.Words.{IsSound, Owner, Slot, is_open}
use Rattle.std.proofs.lemmas.List.Sums.{count_by-le-length}
use Rattle.fm_operations.proofs.Counting.{flight_few}
use Rattle.fm_operations.specs.Initiators.{is_begun_by, is_below}
use Rattle.fm_operations.specs.Sound as flow
use Rattle.fm_world.specs.ContextEvents.{left_over}
use Rattle.fm_world.specs.Workers.{is_in_routine}
use Rattle.fm_world.proofs.Callbacks.{not_false}
use Rattle.fm_world.proofs.Collected.{collected_few}
use Rattle.fm_world.proofs.Detaching.{ends}
use Rattle.fm_world.proofs.Events.{answers_by, idle_by}
use Rattle.fm_world.proofs.Keeps.{MovesWorkers, callback_ends, callback_enters, callback_place, follows_same, row_stays}
use Rattle.fm_world.proofs.Owning.{goes_owned, rows_same}
use Rattle.fm_world.proofs.Staying.{Does, makes, nothing, still, unchanged}

-- ---- a routine is entered

-- any number of workers may be in routines of such an instance
enters_workers : (i : InstanceId) (file : Option FileObject) (row : Instance) (d : InstanceCallback) (n m : ℕ) → is_flown row.phase ≡ true → m ≤ 48
    → m + one (is_at d i.0 Place.Idle) ≡ n + one (is_at d i.0 (Place.Routine i file)) → HasWorkers d (Some row) n → HasWorkers d (Some row) m
enters_workers i file row AtRoutine n m is few moves h = grind (arith, eq-eqb)
enters_workers i file row d n m is few moves h = grind arith

flown_there : (m : Option Instance) → is_flown_by m ≡ true → (row : Instance) × (m ≡ Some row) × (is_flown row.phase ≡ true)
flown_there m h = grind arith

pub enter_routine_does : (old : World) (k : WorkerId) (i : InstanceId) (h : Option HandleId) (result : Result (Unit {0}) Status) (new : World)
    → EntersRoutine old k i h result new → Does old new
unfolding EntersRoutine
enter_routine_does old k i h result new event =
    idle_by (λ _ w. Does old w) k result old new _ event (λ why. nothing old) (λ at enters.
    answers_by (λ _ w. Does old w) _ result old new _ enters (λ why. nothing old) (λ done free e.
    let file = file_by old.files h in
    let flown = is_flown_by (row_at old.stack i) in
    let row = flown_there (row_at old.stack i) (not_false flown (none_refuses (routine_refusals old i h) free).1.0) in
    makes old (record old { workers = put old.workers k (Place.Routine i file) }) new e (still old.contexts) (λ s. record {
      under_way = callback_enters old k (Place.Routine i file) i old.stack row.0 row.0 at refl refl (row_stays old.stack i.0 row.0 row.1)
          (λ d m few moves h. enters_workers i file row.0 d (count_by (is_at d i.0) old.workers) m row.2 few moves h) s.under_way.stack
          (follows_same old.stack) s.under_way;
      owned = goes_owned old k Place.Idle (Place.Routine i file) old.stack at refl refl refl (rows_same old old.stack refl) (omega arith) (λ v h. h) s;
      begun = s.begun;
      filed = s.filed;
      links = s.links;
    })))

-- ---- a routine returns

some_flown : (b : Bool) → 1 ≤ cond b 48 0 → b ≡ true
some_flown b h = grind arith

-- the instance whose routine a worker is in is there, and its teardown isn't completed
pub routine_place : (w : World) (k : WorkerId) (i : InstanceId) (file : Option FileObject) → IsUnderWay w → worker_at w.workers k ≡ Some (Place.Routine i file)
    → (row : Instance) × (slice_get w.stack.instances i.0 ≡ Some row) × (is_flown row.phase ≡ true)
routine_place w k i file s at =
    let place = callback_place w k (Place.Routine i file) AtRoutine i s at (eq-eqb i.0 i.0 refl) in
    (place.0, place.1, some_flown (is_flown place.0.phase) place.2)

routine_workers : (i : InstanceId) (file : Option FileObject) (row : Instance) → MovesWorkers i.0 (Place.Routine i file) Place.Idle (Some row) (Some row)
routine_workers i file row AtRoutine n m moves h = grind (arith, eq-eqb)
routine_workers i file row d n m moves h = grind arith

pub routine_returned_does : (old : World) (k : WorkerId) (result : Result (Unit {0}) Status) (new : World) → RoutineReturns old k result new
    → Does old new × (hand_len k.0 new ≡ left_by AtRoutine (worker_at old.workers k) (hand_len k.0 old))
unfolding RoutineReturns
routine_returned_does old k result new h = by_place (worker_at old.workers k) refl h
  where
    by_place : (m : Option Place) → worker_at old.workers k ≡ m → RoutineReturnsAt old k result new m
        → Does old new × (hand_len k.0 new ≡ left_by AtRoutine m (hand_len k.0 old))
    by_place (Some (Place.Routine i file)) at h =
        ends old new k (Place.Routine i file) old.stack at refl h.1 h.2 refl refl (λ s.
        let row = routine_place old k i file s.under_way at in (
          rows_same old old.stack refl,
          callback_ends old k (Place.Routine i file) i old.stack row.0 row.0 at refl refl (row_stays old.stack i.0 row.0 row.1) (routine_workers i file row.0)
              s.under_way.stack (follows_same old.stack) s.under_way,
        ))
    by_place _ at h = (unchanged old new h.1, ap (hand_len k.0) h.1)

-- ---- what a teardown waits for is few

-- each operation is in flight at an instance once at most
few_fly : (i : ℕ) (rs : List FlowRecord) → All flow.IsSound rs → total (flight i) rs ≤ count_by (λ r. not r.collected) rs + count_by (λ r. r.collected) rs
few_fly i [] sound = omega arith
few_fly i (r ∷ rs) sound = omega (
  arith,
  flight_few r.stage r.entries i (All-head flow.IsSound r rs sound).course,
  count-cons (λ (x : FlowRecord). not x.collected) r rs,
  count-cons (λ (x : FlowRecord). x.collected) r rs,
  either_counts r.collected,
  few_fly i rs (All-tail flow.IsSound r rs sound),
)
  where
    either_counts : (b : Bool) → one (not b) + one b ≡ 1
    either_counts b = grind arith

-- an operation that wasn't collected began below one instance at most
begun_few : (i : ℕ) (rs : List FlowRecord) → count_by (is_begun_by i) rs ≤ count_by (λ r. not r.collected) rs
begun_few i [] = omega arith
begun_few i (r ∷ rs) = omega (
  arith,
  count-cons (is_begun_by i) r rs,
  count-cons (λ (x : FlowRecord). not x.collected) r rs,
  both_few (not r.collected) (is_below i r.below),
  begun_few i rs,
)
  where
    both_few : (a b : Bool) → one (a && b) ≤ one a
    both_few a b = grind arith

pub unfinished_few : (w : World) (i : InstanceId) → IsUnderWay w → unfinished_at w i ≤ 608
unfinished_few w i s = omega (
  arith,
  begun_few i.0 w.flow.operations,
  few_fly i.0 w.flow.operations s.flow.sound,
  s.flow.few,
  collected_few w.workers w.flow s.flow s.hands s.drains,
  count_by-le-length (is_in_routine i.0) w.workers,
  s.hands,
)

-- so what an instance's end waits for are few
pub left_few : (w : World) (i : InstanceId) → IsSound w → left_over w i ≤ 65792
left_few w i s = omega (
  arith,
  count_by-le-length (λ (x : Slot). is_open (Owner.Instance i) x.context) w.contexts.slots,
  s.owned.lawful.few,
  begun_few i.0 w.flow.operations,
  s.under_way.flow.few,
)
