-- The events that leave all operations as they are: those on filters, volumes, instances and contexts.
use Rattle.fm_local.proofs.Words.{◌≡◌, Bool, FilterId, FlowTable, InstanceId, List, None, OpId, Option, Result, Some, Status, VolumeId, Place, WorkerId, World, ap, refl, ℕ, worker_at}
use Rattle.fm_local.proofs.Words.{AsksDetach, AsksUnload, Attaches, CompleteReturns, CompletesTeardown, ContextKind, CtxId, EmptiesFilter, Finishes, FinishesFilter, HandleId, Mounts, Registers}
use Rattle.fm_local.proofs.Words.{Registration, StartReturns, StartsTeardown, UnloadReturns, UnloadReturnsAt, context_at}
use Rattle.fm_ctx.specs.declared.due.Due.{Due}
use Rattle.fm_ctx.specs.declared.object.Object.{Object}
use Rattle.fm_ctx.specs.declared.set_reply.SetMode.{SetMode}
use Rattle.fm_ctx.specs.Table.{Context}
use Rattle.fm_operations.specs.declared.hold.Hold.{Hold}
use Rattle.fm_world.proofs.Events.{answers_by, asked_by, idle_by, taken_by}
use Rattle.fm_world.specs.ContextEvents.{Allocates, Bumps, Callback, Cleans, CleansAt, Deletes, Gets, ReadsBody, References, Releases, Sets, SetsIn, SetsOn, SetsUnless, TakesDue, WritesBody}
use Rattle.fm_world.specs.ContextEvents.{callback_of, object_for, set_refused}
use Rattle.fm_world.specs.Dismounts.{Drops, DropsHandle, EmptiesVolume, FinishesVolume, StartsDismount, lowest_on}
use Rattle.fm_world.specs.Events.{FindsHeld, FindsHeldAt, SetsUp, SetsUpAt}
use Rattle.fm_world.specs.Owners.{place_in}
use Rattle.fm_world.specs.Routines.{EntersRoutine, RoutineReturns, RoutineReturnsAt}
use Rattle.fm_world.specs.Teardowns.{CompleteReturnsAt, ForcesUnload, QueryReturns, QueryReturnsAt, StartReturnsAt}
use Rattle.fm_world.specs.declared.file.FileHandle.{FileHandle}
use Rattle.fm_world.specs.declared.set_answer.SetAnswer.{SetAnswer}
use Rattle.fm_local.proofs.operations.Events.{by_links}

abbrev flow_of : World → FlowTable
flow_of w = w.flow

abbrev pub Unmoved : World → World → Type 0
Unmoved old new = new.flow ≡ old.flow

module _ (old new : World) where
  abbrev After : (T : Type 0) → Result T Status → World → Type 0
  After T result w = Unmoved old w

  -- ---- filters, volumes and instances

  pub registered : (name : List ℕ) (registration : Registration) (result : Result FilterId Status)
      → Registers old name registration result new → Unmoved old new
  unfolding Registers
  registered name registration result h = ap flow_of h.1

  pub mounted : (name : List ℕ) (result : Result VolumeId Status) → Mounts old name result new → Unmoved old new
  unfolding Mounts
  mounted name result h = ap flow_of h.1

  pub finished : (i : InstanceId) (result : Result (Unit {0}) Status) → Finishes old i result new → Unmoved old new
  unfolding Finishes
  finished i result h = answers_by (After (Unit {0})) _ result old new _ h (λ why. refl) (λ done none event. ap flow_of event)

  pub unload_forced : (f : FilterId) (result : Result (Unit {0}) Status) → ForcesUnload old f result new → Unmoved old new
  unfolding ForcesUnload
  unload_forced f result h = ap flow_of h.1

  pub filter_emptied : (f : FilterId) (result : Result (Unit {0}) Status) → EmptiesFilter old f result new → Unmoved old new
  unfolding EmptiesFilter
  filter_emptied f result h = ap flow_of h.2

  pub filter_finished : (f : FilterId) (result : Result (Unit {0}) Status) → FinishesFilter old f result new → Unmoved old new
  unfolding FinishesFilter
  filter_finished f result h = ap flow_of h.1

  pub dismount_started : (v : VolumeId) (result : Result (Unit {0}) Status) → StartsDismount old v result new → Unmoved old new
  unfolding StartsDismount
  dismount_started v result h = ap flow_of h.1

  pub handle_dropped : (v : VolumeId) (result : Result (Option HandleId) Status) → DropsHandle old v result new → Unmoved old new
  unfolding DropsHandle
  handle_dropped v result h = answers_by (After (Option HandleId)) _ result old new _ h (λ why. refl)
      (λ answer none event. by_lowest answer (lowest_on v old.files) event)
    where
      by_lowest : (answer : Option HandleId) (m : Option FileHandle) → Drops old answer new m → Unmoved old new
      by_lowest answer None h = ap flow_of h.1
      by_lowest answer (Some x) h = (by_links _ new h.1).flow

  pub volume_emptied : (v : VolumeId) (result : Result (Unit {0}) Status) → EmptiesVolume old v result new → Unmoved old new
  unfolding EmptiesVolume
  volume_emptied v result h = ap flow_of h.2

  pub volume_finished : (v : VolumeId) (result : Result (Unit {0}) Status) → FinishesVolume old v result new → Unmoved old new
  unfolding FinishesVolume
  volume_finished v result h = ap flow_of h.1

  module _ (k : WorkerId) where
    pub attached : (f : FilterId) (v : VolumeId) (name altitude : List ℕ) (result : Result InstanceId Status)
        → Attaches old k f v name altitude result new → Unmoved old new
    unfolding Attaches
    attached f v name altitude result h = idle_by (After InstanceId) k result old new _ h (λ why. refl) (λ idle event. ap flow_of event.1)

    pub set_up : (accept : Bool) (result : Result (Unit {0}) Status) → SetsUp old k accept result new → Unmoved old new
    unfolding SetsUp
    set_up accept result h = by_worker (worker_at old.workers k) h
      where
        by_worker : (m : Option Place) → SetsUpAt old k accept result new m → Unmoved old new
        by_worker (Some (Place.Setup i)) h = ap flow_of h.4
        by_worker _ h = ap flow_of h.1

    pub asked : (i : InstanceId) (result : Result (Unit {0}) Status) → AsksDetach old k i result new → Unmoved old new
    unfolding AsksDetach
    asked i result h = idle_by (After (Unit {0})) k result old new _ h (λ why. refl) (λ idle event.
        answers_by (After (Unit {0})) _ result old new _ event (λ why. refl) (λ done none e. ap flow_of e))

    pub queried : (allow : Bool) (result : Result (Unit {0}) Status) → QueryReturns old k allow result new → Unmoved old new
    unfolding QueryReturns
    queried allow result h = by_worker (worker_at old.workers k) h
      where
        by_worker : (m : Option Place) → QueryReturnsAt old k allow result new m → Unmoved old new
        by_worker (Some (Place.Query i)) h = ap flow_of h.2
        by_worker _ h = ap flow_of h.1

    pub starting : (i : InstanceId) (result : Result (Unit {0}) Status) → StartsTeardown old k i result new → Unmoved old new
    unfolding StartsTeardown
    starting i result h = idle_by (After (Unit {0})) k result old new _ h (λ why. refl) (λ idle event. ap flow_of event.1)

    pub started : (result : Result (Unit {0}) Status) → StartReturns old k result new → Unmoved old new
    unfolding StartReturns
    started result h = by_worker (worker_at old.workers k) h
      where
        by_worker : (m : Option Place) → StartReturnsAt old k result new m → Unmoved old new
        by_worker (Some (Place.Start i)) h = ap flow_of h.2
        by_worker _ h = ap flow_of h.1

    pub completing : (i : InstanceId) (result : Result (Unit {0}) Status) → CompletesTeardown old k i result new → Unmoved old new
    unfolding CompletesTeardown
    completing i result h = idle_by (After (Unit {0})) k result old new _ h (λ why. refl) (λ idle event. ap flow_of event.1)

    pub completed : (result : Result (Unit {0}) Status) → CompleteReturns old k result new → Unmoved old new
    unfolding CompleteReturns
    completed result h = by_worker (worker_at old.workers k) h
      where
        by_worker : (m : Option Place) → CompleteReturnsAt old k result new m → Unmoved old new
        by_worker (Some (Place.Complete i)) h = ap flow_of h.4
        by_worker _ h = ap flow_of h.1

    pub entered_routine : (i : InstanceId) (handle : Option HandleId) (result : Result (Unit {0}) Status) → EntersRoutine old k i handle result new → Unmoved old new
    unfolding EntersRoutine
    entered_routine i handle result h = idle_by (After (Unit {0})) k result old new _ h (λ why. refl) (λ idle event.
        answers_by (After (Unit {0})) _ result old new _ event (λ why. refl) (λ done none e. ap flow_of e))

    pub routine_returned : (result : Result (Unit {0}) Status) → RoutineReturns old k result new → Unmoved old new
    unfolding RoutineReturns
    routine_returned result h = by_worker (worker_at old.workers k) h
      where
        by_worker : (m : Option Place) → RoutineReturnsAt old k result new m → Unmoved old new
        by_worker (Some (Place.Routine i file)) h = ap flow_of h.2
        by_worker _ h = ap flow_of h.1

    pub unload_asked : (f : FilterId) (result : Result (Unit {0}) Status) → AsksUnload old k f result new → Unmoved old new
    unfolding AsksUnload
    unload_asked f result h = idle_by (After (Unit {0})) k result old new _ h (λ why. refl) (λ idle event.
        answers_by (After (Unit {0})) _ result old new _ event (λ why. refl) (λ done none e. ap flow_of e))

    pub unloaded : (allow : Bool) (result : Result (Unit {0}) Status) → UnloadReturns old k allow result new → Unmoved old new
    unfolding UnloadReturns
    unloaded allow result h = by_worker (worker_at old.workers k) h
      where
        by_worker : (m : Option Place) → UnloadReturnsAt old k allow result new m → Unmoved old new
        by_worker (Some (Place.Unload f)) h = ap flow_of h.1
        by_worker _ h = ap flow_of h.1

    pub held_found : (kind : Hold) (result : Result (Option OpId) Status) → FindsHeld old k kind result new → Unmoved old new
    unfolding FindsHeld
    held_found kind result h = by_place (place_in (worker_at old.workers k)) h
      where
        by_place : (m : Option InstanceId) → FindsHeldAt old kind result new m → Unmoved old new
        by_place None h = ap flow_of h.1
        by_place (Some i) h = ap flow_of h.3

    -- ---- contexts

    pub allocated : (kind : ContextKind) (body : List ℕ) (result : Result CtxId Status) → Allocates old k kind body result new → Unmoved old new
    unfolding Allocates
    allocated kind body result h = taken_by (After CtxId) old k result new _ _ h (λ why. refl) (λ at in' v none event. ap flow_of event.1)

    pub got : (kind : ContextKind) (result : Result CtxId Status) → Gets old k kind result new → Unmoved old new
    unfolding Gets
    got kind result h = asked_by (After CtxId) old k result new _ _ h (λ why. refl) (λ at in' v none event. ap flow_of event.1)

    pub deleted : (kind : ContextKind) (wants : Bool) (result : Result (Option CtxId) Status) → Deletes old k kind wants result new → Unmoved old new
    unfolding Deletes
    deleted kind wants result h = asked_by (After (Option CtxId)) old k result new _ _ h (λ why. refl) (λ at in' v none event. ap flow_of event.1)

    pub referenced : (c : CtxId) (result : Result (Unit {0}) Status) → References old k c result new → Unmoved old new
    unfolding References
    referenced c result h = asked_by (After (Unit {0})) old k result new _ _ h (λ why. refl) (λ at in' v none event. ap flow_of event)

    pub released : (c : CtxId) (result : Result (Unit {0}) Status) → Releases old k c result new → Unmoved old new
    unfolding Releases
    released c result h = asked_by (After (Unit {0})) old k result new _ _ h (λ why. refl) (λ at in' v none event. ap flow_of event)

    pub body_read : (c : CtxId) (result : Result (List ℕ) Status) → ReadsBody old k c result new → Unmoved old new
    unfolding ReadsBody
    body_read c result h = taken_by (After (List ℕ)) old k result new _ _ h (λ why. refl) (λ at in' v none event. ap flow_of event.1)

    pub body_written : (c : CtxId) (bytes : List ℕ) (result : Result (Unit {0}) Status) → WritesBody old k c bytes result new → Unmoved old new
    unfolding WritesBody
    body_written c bytes result h = asked_by (After (Unit {0})) old k result new _ _ h (λ why. refl) (λ at in' v none event. ap flow_of event)

    pub bumped : (c : CtxId) (place by : ℕ) (result : Result ℕ Status) → Bumps old k c place by result new → Unmoved old new
    unfolding Bumps
    bumped c place by result h = asked_by (After ℕ) old k result new _ _ h (λ why. refl) (λ at in' v none event. ap flow_of event.1)

    pub set : (c : CtxId) (mode : SetMode) (wants : Bool) (result : SetAnswer) → Sets old k c mode wants result new → Unmoved old new
    unfolding Sets
    set c mode wants result h = by_callback (callback_of old k) h
      where
        by_object : (m : Option Context) (o : Option Object) → SetsOn old k c mode wants result new m o → Unmoved old new
        by_object (Some x) (Some object) h = ap flow_of h.1
        by_object (Some x) None h = absurd h
        by_object None o h = absurd h

        by_refusal : (at : Callback) (m : Option Status) → SetsUnless old k c mode wants result new at m → Unmoved old new
        by_refusal at (Some why) h = ap flow_of h.1
        by_refusal at None h = by_object (context_at old.contexts.slots c) (object_for at (context_at old.contexts.slots c)) h

        by_callback : (m : Option Callback) → SetsIn old k c mode wants result new m → Unmoved old new
        by_callback None h = ap flow_of h.1
        by_callback (Some at) h = by_refusal at (set_refused old k c at) h

    pub due_taken : (result : Result (Option Due) Status) → TakesDue old k result new → Unmoved old new
    unfolding TakesDue
    due_taken result h = idle_by (After (Option Due)) k result old new _ h (λ why. refl) (λ idle event. ap flow_of event.1)

    pub cleaned : (number : ℕ) (result : Result (Unit {0}) Status) → Cleans old k number result new → Unmoved old new
    unfolding Cleans
    cleaned number result h = by_worker (worker_at old.workers k) h
      where
        by_worker : (m : Option Place) → CleansAt old k number result new m → Unmoved old new
        by_worker (Some (Place.Cleanup c)) h = ap flow_of h.1
        by_worker _ h = ap flow_of h.1
