-- What is due stays none through the events that a call makes besides cleanups.
use Rattle.fm_local.proofs.Words.{◌≡◌, Answer, Bool, Err, FilterId, InstanceId, List, Ok, OpId, Result, Some, StackWorld, Status, VolumeId, WorkerId}
use Rattle.fm_local.proofs.Words.{World, worker_at, ℕ, ◌∙◌, IsOk, ap, refl, subst, sym, Registration, Request, idle_by, Finishes, Attaches, Begins}
use Rattle.fm_local.proofs.Words.{Collects, Mounts, Registers, UnloadReturnsAt, AsksDetach, AsksUnload, CompletesTeardown, EmptiesFilter}
use Rattle.fm_local.proofs.Words.{FinishesFilter, HandleId, Option, StartsTeardown, UnloadReturns, is_idle, put, Place, HasNoneDue}
use Rattle.fm_world.specs.Routines.{EntersRoutine}
use Rattle.std.specs.Prelude.{IfErr}
use Rattle.fm_world.specs.World.{empty_world}
use Rattle.fm_local.specs.Calls.{EndsTidily, UnloadsWith}
use Rattle.fm_local.specs.Cleanups.{LeavesNoneDue}
use Rattle.fm_local.proofs.queues.Places.{begun_stays}
use Rattle.fm_local.proofs.instances.Detaches.{start_refused}
use Rattle.fm_local.proofs.instances.Rest.{ask_refused, attach_refused, complete_refused, happened, is_in, is_out, ask_unload_refused, work_refused}

module _ (k : WorkerId) where
  pub none_still : (old new : World) → new.workers ≡ old.workers → new.contexts ≡ old.contexts → LeavesNoneDue k old new
  none_still old new workers contexts none idle = ap (λ t. t.due) contexts ∙ none (ap (λ ws. is_idle (worker_at ws k)) (sym workers) ∙ idle)

  pub none_same : (old new : World) → new ≡ old → LeavesNoneDue k old new
  none_same old new same = none_still old new (ap (λ (w : World). w.workers) same) (ap (λ (w : World). w.contexts) same)

  only_stack : (old new : World) (s : StackWorld) → new ≡ record old { stack = s } → LeavesNoneDue k old new
  only_stack old new s same = none_still old new (ap (λ (w : World). w.workers) same) (ap (λ (w : World). w.contexts) same)

  pub none_empty : (w : World) → w ≡ empty_world → HasNoneDue k w
  none_empty w empty idle = ap (λ (w : World). w.contexts.due) empty

  -- ---- events that aren't made by a worker

  pub none_registered : (old : World) (name : List ℕ) (registration : Registration) (result : Result FilterId Status) (new : World)
      → Registers old name registration result new → LeavesNoneDue k old new
  unfolding Registers
  none_registered old name registration result new h = only_stack old new new.stack h.1

  pub none_mounted : (old : World) (name : List ℕ) (result : Result VolumeId Status) (new : World) → Mounts old name result new → LeavesNoneDue k old new
  unfolding Mounts
  none_mounted old name result new h = only_stack old new new.stack h.1

  pub none_collected : (old : World) (o : OpId) (result : Result Answer Status) (new : World) → Collects old o result new → LeavesNoneDue k old new
  unfolding Collects
  none_collected old o result new h = none_still old new (ap (λ (w : World). w.workers) h.1) (ap (λ (w : World). w.contexts) h.1)

  pub none_begun : (old : World) (what : Request) (why : Status) (new : World) → Begins old what (Err why) new → LeavesNoneDue k old new
  unfolding Begins
  none_begun old what why new h = none_same old new h.1

  pub none_begins : (old : World) (what : Request) (result : Result OpId Status) (new : World) → Begins old what result new → LeavesNoneDue k old new
  unfolding Begins
  none_begins old what (Err why) new h = none_same old new h.1
  none_begins old what (Ok o) new h =
      none_still old new (ap (λ (w : World). w.workers) h.1.1 ∙ (begun_stays k old what).0) (ap (λ (w : World). w.contexts) h.1.1 ∙ (begun_stays k old what).1)

  pub none_finished : (old : World) (i : InstanceId) (result : Result (Unit {0}) Status) (new : World) → Finishes old i result new → LeavesNoneDue k old new
  unfolding Finishes
  none_finished old i (Err why) new h = none_same old new h.1
  none_finished old i (Ok done) new h = only_stack old new _ h.1

  pub none_ended : (old : World) (f : FilterId) (result : Result (Unit {0}) Status) (new : World) → FinishesFilter old f result new → LeavesNoneDue k old new
  unfolding FinishesFilter
  none_ended old f result new h = only_stack old new new.stack h.1

  pub none_emptied : (old : World) (f : FilterId) (why : Status) (new : World) → EmptiesFilter old f (Err why) new → LeavesNoneDue k old new
  unfolding EmptiesFilter
  none_emptied old f why new h = none_still old new (ap (λ (w : World). w.workers) h.2) h.1

  -- ---- refusals of events that begin a callback

  pub none_attached : (old : World) (f : FilterId) (v : VolumeId) (name altitude : List ℕ) (why : Status) (new : World)
      → Attaches old k f v name altitude (Err why) new → LeavesNoneDue k old new
  none_attached old f v name altitude why new h = none_same old new (attach_refused old k f v name altitude why new h)

  pub none_asked : (old : World) (i : InstanceId) (why : Status) (new : World) → AsksDetach old k i (Err why) new → LeavesNoneDue k old new
  none_asked old i why new h = none_same old new (ask_refused old k i why new h)

  pub none_worked : (old : World) (i : InstanceId) (h : Option HandleId) (why : Status) (new : World) → EntersRoutine old k i h (Err why) new
      → LeavesNoneDue k old new
  none_worked old i h why new goes = none_same old new (work_refused old k i h why new goes)

  pub none_started : (old : World) (i : InstanceId) (why : Status) (new : World) → StartsTeardown old k i (Err why) new → LeavesNoneDue k old new
  none_started old i why new h = none_same old new (start_refused k i old why new h)

  pub none_completed : (old : World) (i : InstanceId) (why : Status) (new : World) → CompletesTeardown old k i (Err why) new → LeavesNoneDue k old new
  none_completed old i why new h = none_same old new (complete_refused old k i why new h)

  -- ---- a filter is asked whether it may be unloaded, which leaves no reference

  entered : (old asked : World) (f : FilterId) → AsksUnload old k f (Ok tt) asked → asked ≡ record old { workers = put old.workers k (Place.Unload f) }
  unfolding AsksUnload
  entered old asked f h = (happened old k tt asked _ h).1

  was_idle : (old asked : World) (f : FilterId) → AsksUnload old k f (Ok tt) asked → worker_at old.workers k ≡ Some Place.Idle
  unfolding AsksUnload
  was_idle old asked f h = idle_by (λ result new. IsOk result → worker_at old.workers k ≡ Some Place.Idle) k (Ok tt) old asked _ h
      (λ why ok. cc) (λ idle event ok. idle) refl

  none_unload : (old asked : World) (f : FilterId) (allows : Bool) (ended : Result (Unit {0}) Status) (new : World)
      → AsksUnload old k f (Ok tt) asked → UnloadReturns asked k allows ended new
      → LeavesNoneDue k old new
  unfolding UnloadReturns
  none_unload old asked f allows ended new asks returns =
      let from = entered old asked f asks in
      let idle = was_idle old asked f asks in
      let enters = ap (λ (w : World). w.workers) from in
      let at = subst (UnloadReturnsAt asked k allows ended new) (is_in k old asked (Place.Unload f) idle enters) returns in
      none_still old new (is_out k old asked new (Place.Unload f) idle enters (ap (λ (w : World). w.workers) at.1))
      (ap (λ (w : World). w.contexts) at.1 ∙ ap (λ (w : World). w.contexts) from)

  pub none_refused : (old : World) (f : FilterId) (why : Status) (new : World) → AsksUnload old k f (Err why) new → LeavesNoneDue k old new
  none_refused old f why new h = none_same old new (ask_unload_refused old k f why new h)

  pub none_agreed : (may : Bool → Type 0) (old : World) (f : FilterId) (asked : World) → AsksUnload old k f (Ok tt) asked
      → (result : Result (Unit {0}) Status) (new : World)
      → UnloadsWith may k asked result new → LeavesNoneDue k old new
  none_agreed may old f asked asks result new (allows, answer, returns) = none_unload old asked f allows result new asks returns

  -- ---- an instance that was refused ends

  pub ends_tidily : (i : InstanceId) (accepted : Result (Unit {0}) Status) (new : World) → EndsTidily k i new → IfErr accepted (λ _. EndsTidily k i new)
  ends_tidily i (Ok done) new ends = tt
  ends_tidily i (Err why) new ends = ends
