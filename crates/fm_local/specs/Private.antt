-- What the manager's own functions promise each other, over all that its filters and its file systems say of themselves.
use Rattle.std.specs.Prelude.{[], ◌∷◌, ◌++◌, ◌<◌, ◌≡◌, ◌≤◌, Bool, IsErr, IsOk, List, None, Ok, Option, Result, Some, length, slice_get, true, ℕ}
use Rattle.std.specs.VecDeque.{deque_capacity}
use Rattle.fm_local.specs.Words.{Answer, BaseCall, Data, Completion, Finished, FilterId, FlowAction, InstanceId, OpId, PreVerdict, PostVerdict, Status, VolumeId}
use Rattle.fm_local.specs.Words.{Parts}
use Rattle.fm_callback_data.specs.declared.request.Reply.{Reply}
use Rattle.fm_callback_data.specs.declared.request.Request.{Request}
use Rattle.fm_types.specs.declared.ids.HandleId.{HandleId}
use Rattle.fm_base.specs.declared.base.Base as base
use Rattle.fm_device.specs.Bases.{BasesCarry}
use Rattle.fm_filter.specs.Handed.{numbered}
use Rattle.fm_filter.specs.Standing.{standing_of}
use Rattle.fm_filter.specs.declared.filters.Filters.{Filters}
use Rattle.fm_filter.specs.declared.minifilter.Minifilter as filter
use Rattle.fm_world.specs.EarlyDrains as drains
use Rattle.fm_world.specs.Events as events
use Rattle.fm_world.specs.Teardowns as teardowns
use Rattle.fm_world.specs.declared.file.FileObject.{FileObject}
use Rattle.fm_world.specs.declared.place.Place.{Place}
use Rattle.fm_local.specs.Actions as actions
use Rattle.fm_local.specs.Actions.{filter_at}
use Rattle.fm_local.specs.Calls as calls
use Rattle.fm_local.specs.Calls.{AgreesAt, MayAgree, is_leaving, is_to_go}
use Rattle.fm_local.specs.Chains as chains
use Rattle.fm_local.specs.Cleanups as cleanups
use Rattle.fm_local.specs.Drains as told
use Rattle.fm_local.specs.Drains.{left_to_drain}
use Rattle.fm_local.specs.Offered.{Ready, world}
use Rattle.fm_local.specs.Places as places
use Rattle.fm_local.specs.Places.{EndsFrom, IsIn, WorksOnce}
use Rattle.fm_local.specs.Quietly as quietly
use Rattle.fm_local.specs.Quietly.{IsSettled}
use Rattle.fm_local.specs.Requests as requests
use Rattle.fm_local.specs.Turns as turns
use Rattle.fm_local.specs.Waits.{IsApart, IsEnded, IsGiven, StaysApart, Waiting}
use Rattle.fm_local.specs.declared.local_port.Work.{Work}
use Rattle.fm_local.specs.declared.parts.TheConstants.{WORKER}
use Rattle.fm_local.specs.declared.requests.TheConstants.{RESUMPTIONS}
use Rattle.fm_local.specs.declared.requests.Turn.{Turn}
use Rattle.fm_types.specs.declared.limits.TheConstants.{TURNS}

-- the filter of an instance, by what callbacks work on
abbrev pub filter_on : {F : Type 0} → Filters F → Work → InstanceId → Option F
filter_on filters work i = chains.filter_in (numbered filters) work.state.stack i.0

module _ {F B : Type 0} where
  -- ---- what stays

  -- nothing that was resumed waits to be carried on
  abbrev pub ResumedNone : Parts F B → Type 0
  ResumedNone m = m.work.resumed.items.items ≡ []

  -- what waits so is as before
  abbrev pub SameResumed : Parts F B → Parts F B → Type 0
  SameResumed old new = new.work.resumed ≡ old.work.resumed

  -- a callback ran, and what it left behind is noted
  abbrev pub NotesLeaks : Parts F B → Parts F B → Type 0
  NotesLeaks old new = new ≡ record old { work = new.work; leaks = new.leaks }

  -- the end of a callback is an event of the state alone, and what was left behind is noted
  abbrev pub EndsWithLeaks : Parts F B → Parts F B → Type 0
  EndsWithLeaks old new = new ≡ record old { work = record old.work { state = world new }; leaks = new.leaks }

  -- and the step is noted
  abbrev pub EndsTraced : Parts F B → Parts F B → Type 0
  EndsTraced old new = new ≡ record old { work = record old.work { state = world new }; leaks = new.leaks; trace = new.trace }

  -- the filters are as before, and what has ended
  abbrev pub TurnsOnly : Parts F B → Parts F B → Type 0
  TurnsOnly old new = new ≡ record old { work = new.work; bases = new.bases; trace = new.trace; leaks = new.leaks }

  -- an event of the state alone, and its step is noted
  abbrev pub StateTraced : Parts F B → Parts F B → Type 0
  StateTraced old new = new ≡ record old { work = record old.work { state = world new }; trace = new.trace }

  -- one that waits with its end is taken, with its answer
  abbrev pub TakesEnded : Parts F B → Parts F B → Type 0
  TakesEnded old new = new ≡ record old { work = record old.work { state = world new }; finished = new.finished }

  -- ---- where the worker is, and what waits

  -- a worker that was there is idle
  abbrev pub ComesOut : Place → Parts F B → Parts F B → Type 0
  ComesOut a old new = places.ComesOut WORKER a (world old) (world new)

  -- an operation whose callback the worker was in waits nowhere when that has returned
  abbrev pub LeavesApart : Place → OpId → Parts F B → Parts F B → Type 0
  LeavesApart a o old new = IsIn WORKER a (world old) → Waiting old → Waiting new × IsApart o new

  -- an operation that waited nowhere may wait now
  abbrev pub WaitsFrom : OpId → Parts F B → Parts F B → Type 0
  WaitsFrom o old new = Waiting old → IsApart o old → Waiting new

  abbrev pub ActsApart : OpId → Result FlowAction Status → Parts F B → Parts F B → Type 0
  ActsApart o said old new = IsGiven WORKER o said (world old) → StaysApart o old new

  -- ---- one operation

  abbrev pub IsDoneAt : OpId → Parts F B → Type 0
  IsDoneAt o m = actions.IsDoneAt WORKER o (world m)

  -- one that is done is left as it is
  abbrev pub DoneAtOnce : OpId → Parts F B → Turn → Parts F B → Type 0
  DoneAtOnce o old ended new = IsDoneAt o old → (ended ≡ Turn.Done) × (new ≡ old)

  -- it ended, and its answer wasn't handed out
  abbrev pub EndsAnswered : OpId → Turn → Parts F B → Type 0
  EndsAnswered o ended new = ended ≡ Turn.Done → IsEnded (world new).flow o

  -- the answer of one is handed out, if it has one
  abbrev pub HandsOutAnswer : OpId → Parts F B → Reply → Parts F B → Type 0
  HandsOutAnswer o old said new =
      (collected : Result Answer Status) × events.Collects (world old) o collected (world new) × (said ≡ actions.reply_of collected)

  -- one that is done waits with its end, behind those that ended before it, where there is room
  abbrev pub EndsAtOnce : OpId → Parts F B → Parts F B → Type 0
  EndsAtOnce o old new =
      IsDoneAt o old → length old.finished.items.items < deque_capacity old.finished.items
      → (new.work ≡ old.work) × (new.finished.items.items ≡ old.finished.items.items ++ o ∷ [])

  -- where nothing was resumed, what is due is cleaned up and that is all
  abbrev pub TidiesAlone : Parts F B → Parts F B → Type 0
  TidiesAlone old new = ResumedNone old → requests.Tidies (world old) (world new)

  abbrev pub TidiesState : Parts F B → Parts F B → Type 0
  TidiesState old new = requests.Tidies (world old) (world new)

  abbrev pub SettlesAlone : Parts F B → Parts F B → Type 0
  SettlesAlone old new = ResumedNone old → (new.bases ≡ old.bases) × (new.filters ≡ old.filters) × ResumedNone new

  -- ---- the ends of callbacks

  abbrev pub PreReturns : PreVerdict → Data → Parts F B → Result (Unit {0}) Status → Parts F B → Type 0
  PreReturns verdict back old result new = events.PreReturns (world old) WORKER verdict back result (world new)

  abbrev pub PostReturns : PostVerdict → Option Data → Parts F B → Result (Unit {0}) Status → Parts F B → Type 0
  PostReturns verdict back old result new = events.PostReturns (world old) WORKER verdict back result (world new)

  abbrev pub BaseReturns : BaseCall → Answer → Parts F B → Result (Unit {0}) Status → Parts F B → Type 0
  BaseReturns call answer old result new = events.BaseReturns (world old) WORKER call answer result (world new)

  abbrev pub EndsDrain : Parts F B → Result (Unit {0}) Status → Parts F B → Type 0
  EndsDrain old result new = EndsFrom (world old) (λ before. events.PostReturns before WORKER Finished None result (world new))

  abbrev pub EndsEarlyDrain : Parts F B → Result (Unit {0}) Status → Parts F B → Type 0
  EndsEarlyDrain old result new = EndsFrom (world old) (λ before. drains.DrainReturns before WORKER result (world new))

  abbrev pub EndsStart : InstanceId → Parts F B → Parts F B → Type 0
  EndsStart i old new = IsIn WORKER (Place.Start i) (world old) → EndsFrom (world old) (λ before. teardowns.StartReturns before WORKER (Ok tt) (world new))

  abbrev pub EndsComplete : InstanceId → Parts F B → Parts F B → Type 0
  EndsComplete i old new =
      IsIn WORKER (Place.Complete i) (world old) → EndsFrom (world old) (λ before. teardowns.CompleteReturns before WORKER (Ok tt) (world new))

  abbrev pub EndsRoutine : (Work → Work → Type 0) → Parts F B → Parts F B → Type 0
  EndsRoutine works old new =
      (i : InstanceId) (file : Option FileObject) → IsIn WORKER (Place.Routine i file) (world old) → WorksOnce WORKER works old.work new.work

  -- ---- teardowns

  abbrev pub TornDown : InstanceId → Result (Unit {0}) Status → Parts F B → Type 0
  TornDown i result new = calls.TornDown WORKER i result (world new)

  abbrev pub EndsTidily : InstanceId → Parts F B → Type 0
  EndsTidily i new = calls.EndsTidily WORKER i (world new)

  abbrev pub FilterEnds : FilterId → Result (Unit {0}) Status → Parts F B → Type 0
  FilterEnds f result new = calls.FilterEnds WORKER f result (world new)

  abbrev pub CompletesTeardown : InstanceId → Parts F B → Result (Unit {0}) Status → Parts F B → Type 0
  CompletesTeardown i old result new = teardowns.CompletesTeardown (world old) WORKER i result (world new)

  -- whether an instance is stopping
  abbrev pub is_stopping : InstanceId → Parts F B → Bool
  is_stopping i m = events.is_stopping_row (slice_get (world m).stack.instances i.0)

  -- there is less to drain
  abbrev pub DrainsLess : InstanceId → Bool → Parts F B → Parts F B → Type 0
  DrainsLess i drained old new = drained ≡ true → left_to_drain i (world new) < left_to_drain i (world old)

  abbrev pub HasNoOperation : Parts F B → Type 0
  HasNoOperation m = (world m).flow.operations ≡ []

module _ {F B : Type 0} (f : filter.Ghosts F) where
  -- ---- by filters of any kind

  abbrev pub EndsSetup : InstanceId → Parts F B → Result (Unit {0}) Status → Parts F B → Type 0
  EndsSetup i old result new = EndsFrom (world old) (λ before. calls.SetsUpWith (MayAgree f.setup_may (filter_at old i)) WORKER before result (world new))

  abbrev pub EndsQuery : InstanceId → Parts F B → Result (Unit {0}) Status → Parts F B → Type 0
  EndsQuery i old result new = EndsFrom (world old) (λ before. calls.QueriesWith (MayAgree f.query_may (filter_at old i)) WORKER before result (world new))

  abbrev pub EndsUnload : FilterId → Parts F B → Result (Unit {0}) Status → Parts F B → Type 0
  EndsUnload i old result new = calls.UnloadsWith (MayAgree f.unload_may (numbered old.filters i.0)) WORKER (world old) result (world new)

  abbrev pub AsksToUnload : FilterId → Parts F B → Result (Unit {0}) Status → Parts F B → Type 0
  AsksToUnload i old result new = calls.AsksToUnload (MayAgree f.unload_may (numbered old.filters i.0)) (world old) WORKER i result (world new)

  abbrev pub Asks : InstanceId → Parts F B → Result (Unit {0}) Status → Type 0
  Asks i old result = calls.Asks (AgreesAt f.query_may old.filters) (world old) WORKER i result

  abbrev pub SetupEnds : InstanceId → Parts F B → Result (Unit {0}) Status → Type 0
  SetupEnds i old result = calls.SetupEnds (AgreesAt f.setup_may old.filters (world old) i) WORKER (world old) result

  -- its filter was told to let go of what a completion names
  abbrev pub LetsGo : InstanceId → Completion → Parts F B → Type 0
  LetsGo i completion old = told.WasCalled (λ own. f.drained own completion) (filter_at old i)

  abbrev pub HasCalled : (F → Type 0) → InstanceId → Parts F B → Type 0
  HasCalled holds i old = told.WasCalled holds (filter_at old i)

  abbrev pub CleansUp : Parts F B → Parts F B → Type 0
  CleansUp old new = cleanups.CleansAll f.cleanup_may (numbered old.filters) WORKER (world old) (world new)

  abbrev pub StartsAndDrains : InstanceId → Parts F B → Bool → Parts F B → Type 0
  StartsAndDrains i old starts new = told.StartsAndDrains f.drained (numbered old.filters) WORKER i f.started starts (world old) (world new)

  abbrev pub DrainsAll : InstanceId → Parts F B → Parts F B → Type 0
  DrainsAll i old new = told.DrainsAll f.drained (numbered old.filters) WORKER i (world old) (world new)

  abbrev pub DrainsSome : InstanceId → Parts F B → Bool → Parts F B → Type 0
  DrainsSome i old drained new = told.DrainsSome f.drained (numbered old.filters) WORKER i drained (world old) (world new)

  -- ---- by plain ones

  abbrev pub IsPlain : Parts F B → Type 0
  IsPlain m = actions.ArePlainFilters f.pre_may f.post_may f.is_quiet (numbered m.filters)

  -- what waits to be carried on is as before
  abbrev pub StaysQuiet : Parts F B → Parts F B → Type 0
  StaysQuiet old new = IsPlain old → SameResumed old new

  -- nothing is under way, and nothing that was resumed waits: then so it is
  abbrev pub AtRest : Parts F B → Type 0 → Type 0
  AtRest old Then = IsPlain old → requests.IsAtRest WORKER (world old) → ResumedNone old → Then

  -- nothing that was resumed waits
  abbrev pub Settled : Parts F B → Type 0 → Type 0
  Settled old Then = IsPlain old → ResumedNone old → Then

  -- one operation has begun, and nothing else is under way
  abbrev pub Begun : OpId → Parts F B → Type 0 → Type 0
  Begun o old Then = IsPlain old → actions.IsBegun WORKER o (world old) → ResumedNone old → Then

  abbrev pub SetsUpPlainly : InstanceId → Parts F B → Result (Unit {0}) Status → Parts F B → Type 0
  SetsUpPlainly i old result new =
      IsPlain old → calls.SetsUpWith (MayAgree f.setup_may (filter_at old i)) WORKER (world old) result (world new) × SameResumed old new

  abbrev pub QueriesPlainly : InstanceId → Parts F B → Result (Unit {0}) Status → Parts F B → Type 0
  QueriesPlainly i old result new =
      IsPlain old → calls.QueriesWith (MayAgree f.query_may (filter_at old i)) WORKER (world old) result (world new) × SameResumed old new

  abbrev pub StartsPlainly : InstanceId → Parts F B → Parts F B → Type 0
  StartsPlainly i old new =
      IsPlain old → IsIn WORKER (Place.Start i) (world old) → teardowns.StartReturns (world old) WORKER (Ok tt) (world new) × SameResumed old new

  abbrev pub CompletesPlainly : InstanceId → Parts F B → Parts F B → Type 0
  CompletesPlainly i old new =
      IsPlain old → IsIn WORKER (Place.Complete i) (world old) → teardowns.CompleteReturns (world old) WORKER (Ok tt) (world new) × SameResumed old new

  abbrev pub StartsAlone : InstanceId → Parts F B → Bool → Parts F B → Type 0
  StartsAlone i old starts new = IsPlain old → requests.IsAtRest WORKER (world old) → starts ≡ true → quietly.StartsAlone WORKER i old new

  abbrev pub SetUpQuietly : InstanceId → Parts F B → Result (Unit {0}) Status → Parts F B → Type 0
  SetUpQuietly i old result new =
      Settled old (quietly.SetUpQuietly WORKER i (AgreesAt f.setup_may old.filters (world old) i) (world old) result (world new) × IsSettled old new)

  abbrev pub AsksQuietly : InstanceId → Parts F B → Result (Unit {0}) Status → Parts F B → Type 0
  AsksQuietly i old result new = Settled old (quietly.AsksQuietly WORKER i (AgreesAt f.query_may old.filters) (world old) result
      (world new) × IsSettled old new)

  abbrev pub EndsQuietly : FilterId → Parts F B → Result (Unit {0}) Status → Parts F B → Type 0
  EndsQuietly i old result new = AtRest old (quietly.EndsQuietly WORKER i (world old) result (world new) × IsSettled old new)

  abbrev pub TearsDownAllQuietly : FilterId → Parts F B → Result (Unit {0}) Status → Parts F B → Type 0
  TearsDownAllQuietly i old result new =
      AtRest old (IsOk result × quietly.TearsDownFirst WORKER i (length (world old).stack.instances) (world old) (world new) × IsSettled old new)

  abbrev pub TearsDownIfQuietly : FilterId → InstanceId → Parts F B → Result (Unit {0}) Status → Parts F B → Type 0
  TearsDownIfQuietly own i old result new =
      AtRest old (IsOk result × quietly.TearsDownIf WORKER own (is_to_go own (world old) i) i (world old) (world new) × IsSettled old new)

  abbrev pub TearsDownQuietly : InstanceId → Parts F B → Result (Unit {0}) Status → Parts F B → Type 0
  TearsDownQuietly i old result new = AtRest old (quietly.TearsDownQuietly WORKER i (world old) result (world new) × IsSettled old new)

  -- the teardown of one that is leaving isn't refused
  abbrev pub TearsDownWell : InstanceId → Parts F B → Result (Unit {0}) Status → Type 0
  TearsDownWell i old result = AtRest old (is_leaving (world old) i ≡ true → IsOk result)

  abbrev pub StartsQuietly : InstanceId → Parts F B → Parts F B → Type 0
  StartsQuietly i old new = AtRest old (quietly.StartsQuietly WORKER i (world old) (world new) × IsSettled old new)

  abbrev pub CompletesQuietly : InstanceId → Parts F B → Result (Unit {0}) Status → Parts F B → Type 0
  CompletesQuietly i old result new =
      AtRest old (quietly.WasTold i (world old).stack → IsOk result × quietly.CompletesQuietly WORKER i (world old) (world new) × IsSettled old new)

module _ {F B : Type 0} (f : filter.Ghosts F) (b : base.Ghosts B) where
  -- ---- turns

  -- what is next is done, by filters that are plain
  abbrev pub Does : OpId → Result FlowAction Status → Parts F B → Parts F B → Type 0
  Does o said old new =
      IsPlain f old → turns.Does f.pre_may f.post_may (BasesCarry b.folder b.faults) (numbered old.filters) WORKER o said
      (world old) old.bases.all.items (world new) new.bases.all.items

  -- the call of a file system is carried out
  abbrev pub Calls : OpId → BaseCall → Parts F B → Parts F B → Type 0
  Calls o call old new =
      turns.Does f.pre_may f.post_may (BasesCarry b.folder b.faults) (numbered old.filters) WORKER o (Ok (FlowAction.Base call))
      (world old) old.bases.all.items (world new) new.bases.all.items

  -- by any filters
  abbrev pub Makes : OpId → Result FlowAction Status → Parts F B → Parts F B → Type 0
  Makes o said old new =
      actions.Makes f.pre_may f.post_may f.drained (BasesCarry b.folder b.faults) (numbered old.filters) WORKER o said
      (world old) old.bases.all.items (world new) new.bases.all.items

  abbrev pub Acts : OpId → Result FlowAction Status → Parts F B → Turn → Parts F B → Type 0
  Acts o said old ended new =
      IsPlain f old → actions.Acts f.pre_may f.post_may (BasesCarry b.folder b.faults) (numbered old.filters) WORKER o said
      (world old) old.bases.all.items ended (world new) new.bases.all.items

  abbrev pub TurnsAs : OpId → Parts F B → Turn → Parts F B → Type 0
  TurnsAs o old ended new =
      IsPlain f old → actions.TurnsAs f.pre_may f.post_may (BasesCarry b.folder b.faults) (numbered old.filters) WORKER o
      (world old) old.bases.all.items ended (world new) new.bases.all.items

  abbrev pub TakesTurn : OpId → Parts F B → Turn → Parts F B → Type 0
  TakesTurn o old ended new =
      actions.TakesTurn f.pre_may f.post_may f.drained (BasesCarry b.folder b.faults) (numbered old.filters) WORKER o ended
      (world old) old.bases.all.items (world new) new.bases.all.items

  abbrev pub GoesOn : OpId → Parts F B → Turn → Parts F B → Type 0
  GoesOn o old ended new =
      actions.GoesOn f.pre_may f.post_may f.drained (BasesCarry b.folder b.faults) (numbered old.filters) WORKER o TURNS ended
      (world old) old.bases.all.items (world new) new.bases.all.items

  -- ---- operations, by filters that are plain

  abbrev pub RunsIn : OpId → Parts F B → Reply → Parts F B → Type 0
  RunsIn o old said new = Begun f o old (actions.RunsIn f b WORKER o old said new)

  abbrev pub ClosesIn : OpId → HandleId → Parts F B → Reply → Parts F B → Type 0
  ClosesIn o h old said new = Begun f o old (actions.ClosesIn f b WORKER o h old said new)

  abbrev pub PerformsIn : Request → Parts F B → Reply → Parts F B → Type 0
  PerformsIn what old said new = Ready f b old → actions.PerformsIn f b WORKER what old said new

  -- where that is so
  abbrev pub PerformsIf : Bool → Request → Parts F B → Reply → Parts F B → Type 0
  PerformsIf goes what old said new = Ready f b old → goes ≡ true → actions.PerformsIn f b WORKER what old said new

  -- the only one that was resumed, of which nothing is left to do, waits with its end
  abbrev pub CarriesOnOne : Parts F B → Parts F B → Type 0
  CarriesOnOne old new = (o : OpId) → actions.WaitsAtEnd f b WORKER o old → new.finished.items.items ≡ old.finished.items.items ++ o ∷ []
