-- What a step of one operation leaves of what is under way; and the operation that a worker is inside of.
use Rattle.fm_world.proofs.Words.{flow_changes, Stays, unspent, drain_opens, done_at, is_done, is_number, is_spent, IsStack, all_change, found_holds, returned}
use Rattle.fm_world.proofs.Words.{AtBase, AtDrain, AtPost, AtPre, Spot, drains_running, is_in_at, is_in_drain, is_spot, spot_of, stands_at, AreUnderWay}
use Rattle.fm_world.proofs.Words.{IsAmong, HasWorkers, IsUnderWay, FlowRecord, FlowTable, InBase, InDrain, InstanceId, IsFlow, OpId, PostRunning, PreRunning}
use Rattle.fm_world.proofs.Words.{StackWorld, Stage, WorkerId, changed, last_posted, last_visited, operation_at, owed, told, InstanceCallback, is_at, put, worker_at, World}
use Rattle.fm_world.proofs.Words.{Place, All, AllPairs, List, Some, ap, arith, count_by, false, length, length-set, option_map, refl, slice_get, subst, sym}
use Rattle.fm_world.proofs.Words.{true, unwrap_or, ℕ, ◌&&◌, ◌+◌, ◌<◌, ◌==◌, ◌∙◌, ◌≡◌, and_from, eq-eqb, false≢true, same_Some}
use Rattle.fm_operations.proofs.Flows.{still_ascends}
use Rattle.fm_world.proofs.Ties.{InNoCallback, at_none, workers_still, BalancesDrains, BalancesSpots, InDrains, Matches, drains_balance, in_no_drain, is_running}
use Rattle.fm_world.proofs.Ties.{matches_idle, spot_base, spot_drain, spot_post, spot_pre, spots_balance, standing, tied_moves, tied_there}
use Rattle.fm_operations.specs.Sound as flow

-- ---- one operation changes

-- what is under way, but for the laws of operations: a record that is about to go breaks them
pub record AreInStep (s : StackWorld) (t : FlowTable) (ws : List Place) : Type 0 where
  pub stack : IsStack s
  pub ascending : AllPairs (λ (x y : FlowRecord). x.number.0 < y.number.0) t.operations
  pub among : All (IsAmong s) t.operations
  pub hands : length ws ≡ 48
  pub workers : (o : OpId) (spot : Spot) → count_by (is_in_at o spot) ws ≡ stands_at o spot t
  pub drains : (o : OpId) (i : ℕ) → count_by (is_in_drain o i) ws ≡ drains_running o i t
  pub instance_callbacks : (d : InstanceCallback) (i : ℕ) → HasWorkers d (slice_get s.instances i) (count_by (is_at d i) ws)

pub in_step : {s : StackWorld} {t : FlowTable} {ws : List Place} → AreUnderWay s t ws → AreInStep s t ws
in_step u = record { stack = u.stack; ascending = u.flow.ascending; among = u.among; hands = u.hands; workers = u.workers; drains = u.drains; instance_callbacks = u.instance_callbacks }

pub with_laws : {s : StackWorld} {t : FlowTable} {ws : List Place} → AreInStep s t ws → IsFlow t → AreUnderWay s t ws
with_laws u flow = record { stack = u.stack; flow = flow; among = u.among; hands = u.hands; workers = u.workers; drains = u.drains; instance_callbacks = u.instance_callbacks }

-- one operation changes, and one worker goes elsewhere with it
pub step_moves : (w : World) (o : OpId) (r : FlowRecord) (f : FlowRecord → FlowRecord) (k : WorkerId) (a b : Place)
    → operation_at o w.flow ≡ Some r → worker_at w.workers k ≡ Some a
    → ((x : FlowRecord) → Stays x (f x)) → IsAmong w.stack (f r) → BalancesSpots o a b r (f r) → BalancesDrains o a b r (f r)
    → InNoCallback a → InNoCallback b → IsUnderWay w
    → AreInStep w.stack (changed o f w.flow) (put w.workers k b)
step_moves w o r f k a b at worker stays among spots drains from to s =
    let number : (x : FlowRecord) → (f x).number.0 ≡ x.number.0 = λ x. (stays x).number in
    record {
      stack = s.stack;
      ascending = still_ascends w.flow o f number s.flow.ascending;
      among = all_change (IsAmong w.stack) (is_number o) f w.flow.operations
          (λ x e. subst (λ y. IsAmong w.stack (f y)) (same_Some r x (sym at ∙ e)) among) s.among;
      hands = length-set w.workers k.0 b ∙ s.hands;
      workers = λ p x. tied_moves (λ q. is_in_at q x) (standing x) w.workers w.flow k a b o r f worker at number (spots x) p (s.workers p x);
      drains = λ p i. tied_moves (λ q. is_in_drain q i) (λ y. drain_opens i y.entries) w.workers w.flow k a b o r f worker at number
          (drains i) p (s.drains p i);
      instance_callbacks = λ d i. workers_still d i w.workers k a b (slice_get w.stack.instances i) worker from to (s.instance_callbacks d i);
    }

-- and the record is still needed
pub step_keeps : (w : World) (o : OpId) (r : FlowRecord) (f : FlowRecord → FlowRecord) (k : WorkerId) (a b : Place)
    → operation_at o w.flow ≡ Some r → worker_at w.workers k ≡ Some a
    → ((x : FlowRecord) → Stays x (f x)) → flow.IsSound (f r) → is_spent (f r) ≡ false → IsAmong w.stack (f r)
    → BalancesSpots o a b r (f r) → BalancesDrains o a b r (f r)
    → InNoCallback a → InNoCallback b → IsUnderWay w
    → IsUnderWay (record w { flow = changed o f w.flow; workers = put w.workers k b })
step_keeps w o r f k a b at worker stays sound needed among spots drains from to s =
    with_laws (step_moves w o r f k a b at worker stays among spots drains from to s)
    (flow_changes w.flow o f s.flow (λ x. (stays x).number) (λ x. (stays x).collected)
    (λ x e. subst (λ y. flow.IsSound (f y)) (same_Some r x (sym at ∙ e)) sound)
    (λ x e. subst (λ y. is_spent (f y) ≡ false) (same_Some r x (sym at ∙ e)) needed))

-- an operation that is with a callback, or held, isn't done
pub undone_at : (r : FlowRecord) (stage : Stage) → r.stage ≡ stage → done_at stage (owed r.entries) ≡ false → is_done r ≡ false
undone_at r stage at undone = ap (λ (s : Stage). done_at s (owed r.entries)) at ∙ undone

-- what is told of an operation that is there
pub told_there : {A : Type 0} (read : FlowRecord → A) (other : A) (o : OpId) (t : FlowTable) (r : FlowRecord)
    → operation_at o t ≡ Some r → told read other o t ≡ read r
told_there read other o t r h = ap (λ m. unwrap_or (option_map read m) other) h

-- ---- the operation that a worker is inside of

-- the operation that a worker is inside of, by its spot
pub record Inside (w : World) (o : OpId) (spot : Spot) : Type 0 where
  pub row : FlowRecord
  pub at : operation_at o w.flow ≡ Some row
  pub stands : is_spot spot (spot_of row) ≡ true
  pub sound : flow.IsSound row
  pub among : IsAmong w.stack row

inside : (w : World) (k : WorkerId) (a : Place) (o : OpId) (spot : Spot) → worker_at w.workers k ≡ Some a → is_in_at o spot a ≡ true
    → IsUnderWay w → Inside w o spot
inside w k a o spot at is s =
    let there = tied_there w.workers w.flow k a o spot s.workers at is in
    record {
      row = there.0;
      at = there.1;
      stands = there.2;
      sound = found_holds flow.IsSound (is_number o) w.flow.operations there.0 s.flow.sound there.1;
      among = found_holds (IsAmong w.stack) (is_number o) w.flow.operations there.0 s.among there.1;
    }

pub both_same : (o : OpId) (i : InstanceId) → (o.0 == o.0) && (i.0 == i.0) ≡ true
both_same o i = and_from (o.0 == o.0) (i.0 == i.0) (eq-eqb o.0 o.0 refl) (eq-eqb i.0 i.0 refl)

pub inside_pre : (w : World) (k : WorkerId) (o : OpId) (i : InstanceId) → worker_at w.workers k ≡ Some (Place.Pre o i) → IsUnderWay w
    → (x : Inside w o (AtPre i.0)) × (x.row.stage ≡ PreRunning) × (last_visited x.row.entries ≡ Some i.0)
inside_pre w k o i at s =
    let x = inside w k (Place.Pre o i) o (AtPre i.0) at (both_same o i) s in
    let spot = spot_pre i.0 x.row.stage x.row.entries x.stands in (x, spot.0, spot.1)

pub inside_base : (w : World) (k : WorkerId) (o : OpId) → worker_at w.workers k ≡ Some (Place.Base o) → IsUnderWay w
    → (x : Inside w o AtBase) × (x.row.stage ≡ InBase)
inside_base w k o at s = let x = inside w k (Place.Base o) o AtBase at (eq-eqb o.0 o.0 refl) s in (x, spot_base x.row.stage x.row.entries x.stands)

pub inside_post : (w : World) (k : WorkerId) (o : OpId) (i : InstanceId) → worker_at w.workers k ≡ Some (Place.Post o i) → IsUnderWay w
    → (x : Inside w o (AtPost i.0)) × (x.row.stage ≡ PostRunning) × (last_posted x.row.entries ≡ Some i.0)
inside_post w k o i at s =
    let x = inside w k (Place.Post o i) o (AtPost i.0) at (both_same o i) s in
    let spot = spot_post i.0 x.row.stage x.row.entries x.stands in (x, spot.0, spot.1)

pub inside_drain : (w : World) (k : WorkerId) (o : OpId) (i : InstanceId) → worker_at w.workers k ≡ Some (Place.Drain o i) → IsUnderWay w
    → (x : Inside w o (AtDrain i.0)) × (x.row.stage ≡ InDrain i)
inside_drain w k o i at s = let x = inside w k (Place.Drain o i) o (AtDrain i.0) at (both_same o i) s in (x, spot_drain i x.row.stage x.row.entries x.stands)

-- a worker leaves an operation, which then stands where no worker is inside it
pub return_keeps : (old : World) (k : WorkerId) (a : Place) (o : OpId) (r : FlowRecord) (f : FlowRecord → FlowRecord) (n : ℕ → ℕ)
    → worker_at old.workers k ≡ Some a
    → operation_at o old.flow ≡ Some r → ((x : FlowRecord) → Stays x (f x)) → Matches o a (spot_of r) → is_running (f r).stage ≡ false → InDrains o a n
    → ((i : ℕ) → drain_opens i (f r).entries + n i ≡ drain_opens i r.entries) → InNoCallback a → flow.IsSound (f r) → is_done r ≡ false → IsAmong old.stack (f r)
    → IsUnderWay old → IsUnderWay (returned old k o f)
return_keeps old k a o r f n at there stays matches quiet from even outside sound undone among s =
    step_keeps old o r f k a Place.Idle there at stays sound
    (unspent r (f r) (stays r) undone (found_holds flow.IsSound (is_number o) old.flow.operations r s.flow.sound there)) among
    (spots_balance o a Place.Idle r (f r) matches (matches_idle o (f r).stage (f r).entries quiet))
    (drains_balance o a Place.Idle r (f r) n (λ i. 0) from (in_no_drain o Place.Idle (λ p i. refl)) (λ i. omega (arith, even i)))
    outside (at_none Place.Idle refl) s

pub not_base_of : (stage : Stage) → is_running stage ≡ false → stage ≡ InBase → ⊥
not_base_of stage h e = false≢true (sym h ∙ ap is_running e)
