-- What a manager does of what its state says is next: how a turn of an operation ends, and where turn after turn leads.
use Rattle.std.specs.Prelude.{[], ◌∷◌, ◌≡◌, ◌≤◌, ◌⊎◌, Bool, Err, IsErr, List, None, Ok, Option, Result, Some, false, length, slice_get, suc, true}
use Rattle.std.specs.Prelude.{zero, ℕ, ◌<◌, ◌++◌, All, not, map}
use Rattle.fm_filter.specs.declared.minifilter.Minifilter as filter
use Rattle.fm_base.specs.declared.base.Base as base
use Rattle.fm_local.specs.Words.{BaseCall, Data, Completion, PostVerdict, Finished, PreVerdict, Folder, bare_answer, Finishes, Attaches, AsksDetach}
use Rattle.fm_local.specs.Words.{CompletesTeardown, EmptiesFilter, FinishesFilter, StartsTeardown, Answer, FilterId, FlowAction, InstanceId, OpId}
use Rattle.fm_local.specs.Words.{Status, VolumeId, WorkerId, World, Parts}
use Rattle.std.specs.VecDeque.{deque_capacity}
use Rattle.fm_types.specs.declared.context_kind.ContextKind.{ContextKind}
use Rattle.fm_types.specs.declared.ids.HandleId.{HandleId}
use Rattle.fm_callback_data.specs.declared.request.Reply.{Reply}
use Rattle.fm_callback_data.specs.declared.request.Request.{Request}
use Rattle.fm_callback_data.specs.declared.request.FileRequest.{FileRequest}
use Rattle.fm_world.specs.Events.{Nexts, Begins, Collects, PreReturns, PostReturns, begin_refused, is_stopping_row}
use Rattle.fm_world.specs.Routines.{EntersRoutine}
use Rattle.fm_world.specs.Sound.{IsSound}
use Rattle.fm_world.specs.Teardowns.{CompleteReturns}
use Rattle.fm_filter.specs.Plain.{IsPlainFilter}
use Rattle.fm_local.specs.declared.local_port.Work.{Work}
use Rattle.fm_local.specs.declared.requests.Turn.{Turn}
use Rattle.fm_device.specs.Bases.{BasesCarry}
use Rattle.fm_local.specs.Calls.{AgreesAt, AsksToUnload, MayAgree, QueriesWith, SetsUpWith, is_to_go}
use Rattle.fm_filter.specs.Handed.{numbered}
use Rattle.fm_local.specs.Requests.{under, NoneStops, IsAtRest, AnswersOne, AnswersAll, DoesTidily, Tidies}
use Rattle.fm_local.specs.Chains.{PreMay, PostMay, filter_in}
use Rattle.fm_local.specs.Cleanups.{CleansAll}
use Rattle.fm_local.specs.Drains.{StartsAndDrains, WasCalled}
use Rattle.fm_local.specs.Places.{EndsFrom, WorksOnce}
use Rattle.fm_local.specs.Turns.{Does, HandsBack, Turns, Carries}

-- all filters are plain
abbrev pub ArePlainFilters : {F : Type 0} → (F → Data → PreVerdict → Data → Type 0)
    → (F → Data → Completion → PostVerdict → Data → Type 0) → (F → Type 0) → (ℕ → Option F) → Type 0
ArePlainFilters {F} pre post is_quiet filters = (n : ℕ) (f : F) → filters n ≡ Some f → IsPlainFilter pre post is_quiet f

module _ {F D : Type 0} (pre : F → Data → PreVerdict → Data → Type 0) (post : F → Data → Completion → PostVerdict → Data
    → Type 0) (carries : D → BaseCall → Answer → D → Type 0)
    (filters : ℕ → Option F) (k : WorkerId) (o : OpId) where
  -- what a turn does of what is next, and how it ends
  abbrev pub Acts : Result FlowAction Status → World → D → Turn → World → D → Type 0
  Acts (Ok FlowAction.Done) mid d ended new e = (ended ≡ Turn.Done) × (new ≡ mid) × (e ≡ d)
  Acts (Ok FlowAction.Held) mid d ended new e = (ended ≡ Turn.Held) × (new ≡ mid) × (e ≡ d)
  Acts (Ok (FlowAction.Drain i completion)) mid d ended new e = (ended ≡ Turn.Goes) × (e ≡ d)
  Acts (Err why) mid d ended new e = (ended ≡ Turn.Held) × (new ≡ mid) × (e ≡ d)
  Acts said mid d ended new e = (ended ≡ Turn.Goes) × Does pre post carries filters k o said mid d new e

  -- a turn: the state says what is next, and that is done
  abbrev pub TurnsAs : World → D → Turn → World → D → Type 0
  TurnsAs old d ended new e = (said : Result FlowAction Status) × (mid : World) × Nexts old k o said mid × Acts said mid d ended new e

  -- so many turns were made
  abbrev pub HasTurned : ℕ → World → D → World → D → Type 0
  HasTurned zero old d new e = (new ≡ old) × (e ≡ d)
  HasTurned (suc n) old d new e = (mid : World) × (between : D) × HasTurned n old d mid between × Turns pre post carries filters k o mid between new e

-- how a turn ends, by what it found to be next
abbrev pub ends_turn : Result FlowAction Status → Turn
ends_turn (Ok FlowAction.Done) = Turn.Done
ends_turn (Ok FlowAction.Held) = Turn.Held
ends_turn (Err why) = Turn.Held
ends_turn said = Turn.Goes

-- ---- by filters of any kind
module _ {F D : Type 0} (pre : F → Data → PreVerdict → Data → Type 0) (post : F → Data → Completion → PostVerdict → Data
    → Type 0) (drained : F → Completion → Type 0)
    (carries : D → BaseCall → Answer → D → Type 0) (filters : ℕ → Option F) (k : WorkerId) (o : OpId) where
  -- what is next is done: the callback of the instance that is named runs, and then the event comes that ends it; or the call of the device; or nothing
  abbrev pub Makes : Result FlowAction Status → World → D → World → D → Type 0
  Makes (Ok (FlowAction.Pre i lent)) mid d new e =
      (verdict : PreVerdict) × (back : Data) × (result : Result (Unit {0}) Status)
      × PreMay pre (filter_in filters mid.stack i.0) lent verdict back × HandsBack lent back
      × EndsFrom mid (λ before. PreReturns before k verdict back result new) × (e ≡ d)
  Makes (Ok (FlowAction.Base call)) mid d new e = Does pre post carries filters k o (Ok (FlowAction.Base call)) mid d new e
  Makes (Ok (FlowAction.Post i lent completion)) mid d new e =
      (verdict : PostVerdict) × (back : Data) × (result : Result (Unit {0}) Status)
      × PostMay post (filter_in filters mid.stack i.0) lent completion verdict back
      × HandsBack lent back × EndsFrom mid (λ before. PostReturns before k verdict (Some back) result new) × (e ≡ d)
  Makes (Ok (FlowAction.Drain i completion)) mid d new e =
      (result : Result (Unit {0}) Status) × WasCalled (λ f. drained f completion) (filter_in filters mid.stack i.0)
      × EndsFrom mid (λ before. PostReturns before k Finished None result new) × (e ≡ d)
  Makes said mid d new e = (new ≡ mid) × (e ≡ d)

  -- a turn: the state says what is next, and that is done
  abbrev pub TakesTurn : Turn → World → D → World → D → Type 0
  TakesTurn ended old d new e = (said : Result FlowAction Status) × (mid : World) × Nexts old k o said mid × (ended ≡ ends_turn said) × Makes said mid d new e

  -- so many, behind each of which there is more to do
  abbrev pub TakesTurns : ℕ → World → D → World → D → Type 0
  TakesTurns zero old d new e = (new ≡ old) × (e ≡ d)
  TakesTurns (suc n) old d new e = (mid : World) × (between : D) × TakesTurns n old d mid between × TakesTurn Turn.Goes mid between new e

  -- turn after turn, until one ends otherwise, or as many as there can be
  abbrev pub GoesOn : ℕ → Turn → World → D → World → D → Type 0
  GoesOn most ended old d new e =
      (n : ℕ) × (mid : World) × (between : D) × TakesTurns n old d mid between
      × (TakesTurn ended mid between new e ⊎ ((most ≤ n) × (ended ≡ Turn.Held) × (new ≡ mid) × (e ≡ between)))

-- the operation began, in a state that is sound, while no other was under way and no instance was being torn down
pub record IsBegun (k : WorkerId) (o : OpId) (begun : World) : Type 0 where
  pub what : Request
  pub before : World
  pub sound : IsSound before
  pub rests : IsAtRest k before
  pub calm : NoneStops before.stack
  pub begins : Begins before what (Ok o) begun

-- nothing is left to do for an operation: the state says that it is done
abbrev pub IsDoneAt : WorkerId → OpId → World → Type 0
IsDoneAt k o w = (same : World) × Nexts w k o (Ok FlowAction.Done) same

-- an answer as a reply
abbrev pub replied : Answer → Reply
replied answer = Reply.Done answer.status answer.information answer.bytes

abbrev pub reply_of : Result Answer Status → Reply
reply_of (Ok answer) = replied answer
reply_of (Err why) = replied (bare_answer why)

-- an operation has no answer to be handed out
abbrev pub HasNoAnswer : World → OpId → Type 0
HasNoAnswer w o = (why : Status) × Collects w o (Err why) w

-- of the operations that wait, the first that has an answer is given with it; those before it have none. Where none has one, nothing changes but that they are gone
abbrev pub TakesDone : {F B : Type 0} → Parts F B → Option (OpId × Answer) → Parts F B → Type 0
TakesDone old None new = All (HasNoAnswer old.work.state) old.finished.items.items × (new.finished.items.items ≡ []) × (new.work ≡ old.work)
TakesDone old (Some (o, answer)) new =
    (passed : List OpId) × (old.finished.items.items ≡ passed ++ o ∷ new.finished.items.items) × All (HasNoAnswer old.work.state) passed
    × Collects old.work.state o (Ok answer) new.work.state

-- so it is handed out, as a reply: never a refusal
abbrev pub GivesFinished : {F B : Type 0} → Parts F B → Option (OpId × Reply) → Parts F B → Type 0
GivesFinished old None new = TakesDone old None new
GivesFinished old (Some (o, said)) new = (answer : Answer) × TakesDone old (Some (o, answer)) new × (said ≡ replied answer)

-- the handle that a request closes
abbrev pub closed_handle : Request → Option HandleId
closed_handle (Request.OnHandle h FileRequest.Close) = Some h
closed_handle _ = None

-- whether a close goes on after its cleanup: that succeeded, or began before
abbrev pub is_over : Status → Bool
is_over Status.Success = true
is_over Status.WrongStep = true
is_over _ = false

abbrev pub goes_on : Reply → Bool
goes_on (Reply.Done why information bytes) = is_over why
goes_on (Reply.Held o) = false

-- what a request begins with: a close with its cleanup
abbrev pub first_begun : Request → Request
first_begun (Request.OnHandle h FileRequest.Close) = Request.OnHandle h FileRequest.Cleanup
first_begun what = what

-- whether a refusal of that ends the request: of a close not where its cleanup began before
abbrev pub ends_with : Request → Status → Bool
ends_with (Request.OnHandle h FileRequest.Close) why = not (is_over why)
ends_with what why = true

-- a request that is refused is answered with the refusal, and nothing changes
abbrev pub RefusesIn : {F B : Type 0} → Request → Parts F B → Reply → Parts F B → Type 0
RefusesIn what old said new =
    (why : Status) → begin_refused old.work.state (first_begun what) ≡ Some why → ends_with what why ≡ true → (said ≡ replied (bare_answer why)) × (new ≡ old)

-- so of one that isn't a close
abbrev pub RefusesOne : {F B : Type 0} → Request → Parts F B → Reply → Parts F B → Type 0
RefusesOne what old said new = (why : Status) → begin_refused old.work.state what ≡ Some why → (said ≡ replied (bare_answer why)) × (new ≡ old)

-- nothing changes but the state
abbrev pub OnlyState : {F B : Type 0} → Parts F B → Parts F B → Type 0
OnlyState old new = new ≡ record old { work = record old.work { state = new.work.state } }

-- the filter of an instance
abbrev pub filter_at : {F B : Type 0} → Parts F B → InstanceId → Option F
filter_at m i = filter_in (numbered m.filters) m.work.state.stack i.0

-- callbacks ran: the filters, the file systems and what has ended are as before
abbrev pub CallsBack : {F B : Type 0} → Parts F B → Parts F B → Type 0
CallsBack old new = new ≡ record old { work = new.work; trace = new.trace; leaks = new.leaks }

-- an operation whose turns end so is answered, or held
abbrev pub RepliesWith : {F B : Type 0} → Turn → OpId → Parts F B → Reply → Parts F B → Type 0
RepliesWith Turn.Done o old said new =
    ((collected : Result Answer Status) × Collects old.work.state o collected new.work.state × (said ≡ reply_of collected))
    × (new ≡ record old { work = record old.work { state = new.work.state }; trace = new.trace })
RepliesWith ended o old said new = (said ≡ Reply.Held o) × (new ≡ old)

-- ---- of a manager
module _ {F B : Type 0} (own : filter.Ghosts F) (below : base.Ghosts B) (k : WorkerId) where
  -- an operation that ended waits with its reply, behind those that ended before it, where there is room; of any other nothing is noted
  abbrev pub NotesEnd : Turn → OpId → Parts F B → Parts F B → Type 0
  NotesEnd Turn.Done o old new = length old.finished.items.items < deque_capacity old.finished.items
      → new.finished.items.items ≡ old.finished.items.items ++ o ∷ []
  NotesEnd ended o old new = new.finished ≡ old.finished

  -- an operation that was resumed goes on, until it ends or is held again
  abbrev pub CarriesOn : ℕ → OpId → Parts F B → Parts F B → Type 0
  CarriesOn most o old new =
      (ended : Turn) × GoesOn own.pre_may own.post_may own.drained (BasesCarry below.folder below.faults)
      (numbered old.filters) k o most ended old.work.state old.bases.all.items new.work.state new.bases.all.items
      × NotesEnd ended o old new × (new.filters ≡ old.filters)

  -- so the one that was resumed first, which doesn't wait any more
  abbrev pub CarriesOnFirst : ℕ → Parts F B → Parts F B → Type 0
  CarriesOnFirst most old new =
      (o : OpId) × (taken : Parts F B) × (old.work.resumed.items.items ≡ o ∷ taken.work.resumed.items.items)
      × (taken ≡ record old { work = record old.work { resumed = taken.work.resumed } }) × CarriesOn most o taken new

  -- the same, but for where the queue keeps what waits
  abbrev pub WaitsAlike : Parts F B → Parts F B → Type 0
  WaitsAlike old new =
      (new ≡ record old { work = record old.work { resumed = new.work.resumed } }) × (new.work.resumed.items.items ≡ old.work.resumed.items.items)

  -- so many, one after the other
  abbrev pub CarriesOnMany : ℕ → ℕ → Parts F B → Parts F B → Type 0
  CarriesOnMany most zero old new = new ≡ old
  CarriesOnMany most (suc n) old new = (mid : Parts F B) × CarriesOnMany most n old mid × CarriesOnFirst most mid new

  -- until none waits, or as many as there can be
  abbrev pub CarriesOnAll : ℕ → ℕ → Parts F B → Parts F B → Type 0
  CarriesOnAll most limit old new =
      (n : ℕ) × (mid : Parts F B) × CarriesOnMany most n old mid × WaitsAlike mid new × ((new.work.resumed.items.items ≡ []) ⊎ (limit ≤ n))

  -- and then what is due is cleaned up
  abbrev pub Settles : ℕ → ℕ → Parts F B → Parts F B → Type 0
  Settles most limit old new =
      (carried : Parts F B) × CarriesOnAll most limit old carried × CleansAll own.cleanup_may (numbered carried.filters) k carried.work.state new.work.state
      × OnlyState carried new

  module _ (most : ℕ) where
    -- an operation that began goes on, and is answered
    abbrev pub RunsAlone : OpId → Parts F B → Reply → Parts F B → Type 0
    RunsAlone o old said new =
        (ended : Turn) × (carried : Parts F B)
        × GoesOn own.pre_may own.post_may own.drained (BasesCarry below.folder below.faults) (numbered old.filters) k o most ended
        old.work.state old.bases.all.items carried.work.state carried.bases.all.items
        × (carried ≡ record old { work = carried.work; bases = carried.bases; trace = carried.trace; leaks = carried.leaks })
        × RepliesWith ended o carried said new

    -- a request begins an operation, which is so answered, unless that is refused
    abbrev pub PerformsAlone : Request → Parts F B → Reply → Parts F B → Type 0
    PerformsAlone what old said new =
        ((why : Status) × Begins old.work.state what (Err why) new.work.state × (said ≡ replied (bare_answer why)))
        ⊎ ((o : OpId) × (begun : World) × Begins old.work.state what (Ok o) begun
        × RunsAlone o (record old { work = record old.work { state = begun } }) said new)

    -- a close comes after its cleanup, unless that ends it
    abbrev pub ClosesThen : Bool → HandleId → Parts F B → Reply → Reply → Parts F B → Type 0
    ClosesThen true h mid cleaned said new = PerformsAlone (Request.OnHandle h FileRequest.Close) mid said new
    ClosesThen false h mid cleaned said new = (said ≡ cleaned) × (new ≡ mid)

  module _ (most limit : ℕ) where
    -- an operation that began goes on, and is answered; then what was resumed is carried on, and what is due cleaned up
    abbrev pub RunsOn : OpId → Parts F B → Reply → Parts F B → Type 0
    RunsOn o old said new = (answered : Parts F B) × RunsAlone most o old said answered × Settles most limit answered new

    -- the start of a teardown is refused; or it starts and drains, and behind that what was resumed is carried on
    abbrev pub StartsThenSettles : InstanceId → Parts F B → Parts F B → Type 0
    StartsThenSettles i old new =
        ((why : Status) × StartsTeardown old.work.state k i (Err why) new.work.state × (new ≡ old))
        ⊎ ((told : Parts F B) × StartsAndDrains own.drained (numbered old.filters) k i own.started true old.work.state told.work.state × CallsBack old told
        × Settles most limit told new)

    -- an instance is set up; then what was resumed is carried on, and one that was refused ends
    abbrev pub EndsIfRefused : Result (Unit {0}) Status → InstanceId → Parts F B → Parts F B → Type 0
    EndsIfRefused (Ok done) i old new = new ≡ old
    EndsIfRefused (Err why) i old new = (finished : Result (Unit {0}) Status) × Finishes old.work.state i finished new.work.state × OnlyState old new

    abbrev pub SetsUpThenSettles : InstanceId → Parts F B → Result (Unit {0}) Status → Parts F B → Type 0
    SetsUpThenSettles i old result new =
        (told settled : Parts F B) × EndsFrom old.work.state
        (λ before. SetsUpWith (AgreesAt own.setup_may old.filters old.work.state i) k before result told.work.state)
        × CallsBack old told
        × Settles most limit told settled × EndsIfRefused result i settled new

    -- its filter is asked whether it may be detached, unless that is refused; then what was resumed is carried on
    abbrev pub AsksThenSettles : InstanceId → Parts F B → Result (Unit {0}) Status → Parts F B → Type 0
    AsksThenSettles i old result new =
        (IsErr result × AsksDetach old.work.state k i result new.work.state × OnlyState old new)
        ⊎ ((asked : World) × (told : Parts F B) × AsksDetach old.work.state k i (Ok tt) asked
        × EndsFrom asked (λ before. QueriesWith (AgreesAt own.query_may old.filters asked i) k before result told.work.state)
        × CallsBack old told × Settles most limit told new)

    -- a work item runs once in a routine of an instance, unless that is refused; then what was resumed is carried on
    abbrev pub WorksThenSettles : (Work → Work → Type 0) → InstanceId → Option HandleId → Parts F B → Result (Unit {0}) Status → Parts F B → Type 0
    WorksThenSettles works i h old result new =
        (IsErr result × EntersRoutine old.work.state k i h result new.work.state × OnlyState old new)
        ⊎ ((entered : World) × (told : Parts F B) × EntersRoutine old.work.state k i h (Ok tt) entered
        × WorksOnce k works (record old.work { state = entered }) told.work
        × CallsBack old told × Settles most limit told new × (result ≡ Ok tt))

    -- the end of a teardown, where it is stopping: that is refused, or the filter is told, and then what was resumed is carried on
    abbrev pub TellsThenSettles : Bool → InstanceId → Parts F B → Result (Unit {0}) Status → Parts F B → Type 0
    TellsThenSettles false i old result new = (result ≡ Ok tt) × (new ≡ old)
    TellsThenSettles true i old result new =
        (IsErr result × CompletesTeardown old.work.state k i result new.work.state × OnlyState old new)
        ⊎ ((completing : World) × (told : Parts F B) × CompletesTeardown old.work.state k i (Ok tt) completing
        × WasCalled own.completed (filter_in (numbered old.filters) completing.stack i.0)
        × EndsFrom completing (λ before. CompleteReturns before k (Ok tt) told.work.state) × CallsBack old told
        × Settles most limit told new × (result ≡ Ok tt))

    -- an attach, with the setup of the new instance
    abbrev pub AttachesThenSettles : FilterId → VolumeId → List ℕ → List ℕ → Parts F B → Result InstanceId Status → Parts F B → Type 0
    AttachesThenSettles f v name altitude old (Ok i) new =
        (born : World) × Attaches old.work.state k f v name altitude (Ok i) born
        × SetsUpThenSettles i (record old { work = record old.work { state = born } }) (Ok tt) new
    AttachesThenSettles f v name altitude old (Err why) new =
        (Attaches old.work.state k f v name altitude (Err why) new.work.state × OnlyState old new)
        ⊎ ((i : InstanceId) × (born : World) × Attaches old.work.state k f v name altitude (Ok i) born
        × SetsUpThenSettles i (record old { work = record old.work { state = born } }) (Err why) new)

    -- the end of a teardown: once the filter was told, what is due is cleaned up, and the instance ends
    abbrev pub EndsTeardown : InstanceId → Parts F B → Result (Unit {0}) Status → Parts F B → Type 0
    EndsTeardown i old result new =
        (IsErr result × TellsThenSettles (is_stopping_row (slice_get old.work.state.stack.instances i.0)) i old result new)
        ⊎ ((told : Parts F B) × (tidy : World) × TellsThenSettles (is_stopping_row (slice_get old.work.state.stack.instances i.0)) i old (Ok tt) told
        × CleansAll own.cleanup_may (numbered told.filters) k told.work.state tidy × Finishes tidy i result new.work.state
        × OnlyState told new)

    -- a teardown, from where it is to its end, or to the first event that is refused
    abbrev pub TearsDownFully : InstanceId → Parts F B → Result (Unit {0}) Status → Parts F B → Type 0
    TearsDownFully i old result new = (begun : Parts F B) × StartsThenSettles i old begun × EndsTeardown i begun result new

    -- a detach asks where no teardown is under way; the teardown of one that is agreed to goes on to its end
    abbrev pub DetachesThenSettles : Bool → InstanceId → Parts F B → Result (Unit {0}) Status → Parts F B → Type 0
    DetachesThenSettles true i old result new = TearsDownFully i old result new
    DetachesThenSettles false i old result new =
        (IsErr result × AsksThenSettles i old result new) ⊎ ((asked : Parts F B) × AsksThenSettles i old (Ok tt) asked × TearsDownFully i asked result new)

    module _ (f : FilterId) where
      abbrev pub TearsDownWhere : Bool → InstanceId → Parts F B → Result (Unit {0}) Status → Parts F B → Type 0
      TearsDownWhere true i old result new = TearsDownFully i old result new
      TearsDownWhere false i old result new = (result ≡ Ok tt) × (new ≡ old)

      -- of the first instances, those of the filter that are to go are torn down, one after the other
      abbrev pub TearsDownEach : ℕ → Parts F B → Parts F B → Type 0
      TearsDownEach zero old new = new ≡ old
      TearsDownEach (suc n) old new =
          (mid : Parts F B) × TearsDownEach n old mid × TearsDownWhere (is_to_go f mid.work.state (record { 0 = n })) (record { 0 = n }) mid (Ok tt) new

      -- all that there are, or to the first whose teardown stops
      abbrev pub TearsDownAll : Parts F B → Result (Unit {0}) Status → Parts F B → Type 0
      TearsDownAll old (Ok done) new = TearsDownEach (length old.work.state.stack.instances) old new
      TearsDownAll old (Err why) new = (n : ℕ) × (mid : Parts F B) × TearsDownEach n old mid
          × TearsDownWhere (is_to_go f mid.work.state (record { 0 = n })) (record { 0 = n }) mid (Err why) new

      -- the end of a filter: its instances are torn down, then its volume contexts go, what is due is cleaned up, and it ends
      abbrev pub EndsFully : Parts F B → Result (Unit {0}) Status → Parts F B → Type 0
      EndsFully old result new =
          (IsErr result × TearsDownAll old result new)
          ⊎ ((torn : Parts F B) × TearsDownAll old (Ok tt) torn
          × ((IsErr result × EmptiesFilter torn.work.state f result new.work.state × OnlyState torn new)
          ⊎ ((emptied tidy : World) × EmptiesFilter torn.work.state f (Ok tt) emptied × CleansAll own.cleanup_may (numbered torn.filters) k emptied tidy
          × FinishesFilter tidy f result new.work.state × OnlyState torn new)))

      -- an unload asks where no end is under way
      abbrev pub UnloadsThenSettles : Bool → Parts F B → Result (Unit {0}) Status → Parts F B → Type 0
      UnloadsThenSettles true old result new = EndsFully old result new
      UnloadsThenSettles false old result new =
          (IsErr result × AsksToUnload (MayAgree own.unload_may (numbered old.filters f.0)) old.work.state k f result new.work.state × OnlyState old new)
          ⊎ ((asked : World) × AsksToUnload (MayAgree own.unload_may (numbered old.filters f.0)) old.work.state k f (Ok tt) asked
          × EndsFully (record old { work = record old.work { state = asked } }) result new)

    -- a request begins an operation, unless that is refused
    abbrev pub RequestsOne : Request → Parts F B → Reply → Parts F B → Type 0
    RequestsOne what old said new =
        ((why : Status) × Begins old.work.state what (Err why) new.work.state × (said ≡ replied (bare_answer why)))
        ⊎ ((o : OpId) × (begun : World) × Begins old.work.state what (Ok o) begun × RunsOn o (record old { work = record old.work { state = begun } }) said new)

    -- a close whose cleanup has begun: the cleanup is answered, then the close, unless that ends it; and then what callbacks of both resumed is carried on
    abbrev pub ClosesAfter : OpId → HandleId → Parts F B → Reply → Parts F B → Type 0
    ClosesAfter o h old said new =
        (cleaned : Reply) × (mid answered : Parts F B) × RunsAlone most o old cleaned mid × ClosesThen most (goes_on cleaned) h mid cleaned said answered
        × Settles most limit answered new

    -- one whose cleanup can't begin: it is the request if that began before, and else it is refused as its cleanup
    abbrev pub ClosesRefused : Bool → Status → HandleId → Parts F B → Reply → Parts F B → Type 0
    ClosesRefused true why h old said new = RequestsOne (Request.OnHandle h FileRequest.Close) old said new
    ClosesRefused false why h old said new = (said ≡ replied (bare_answer why)) × (new ≡ old)

    abbrev pub ClosesWith : Result OpId Status → HandleId → Parts F B → Reply → Parts F B → Type 0
    ClosesWith (Ok o) h begun said new = ClosesAfter o h begun said new
    ClosesWith (Err why) h begun said new = ClosesRefused (is_over why) why h begun said new

    abbrev pub Requests : Request → Parts F B → Reply → Parts F B → Type 0
    Requests (Request.OnHandle h FileRequest.Close) old said new =
        (result : Result OpId Status) × (begun : World) × Begins old.work.state (Request.OnHandle h FileRequest.Cleanup) result begun
        × ClosesWith result h (record old { work = record old.work { state = begun } }) said new
    Requests what old said new = RequestsOne what old said new

module _ {F B : Type 0} (own : filter.Ghosts F) (below : base.Ghosts B) (k : WorkerId) where
  -- ready for a request: all filters are plain, nothing is under way or torn down, and nothing that was resumed waits
  pub record IsReady (m : Parts F B) : Type 0 where
    pub plain : ArePlainFilters own.pre_may own.post_may own.is_quiet (numbered m.filters)
    pub rests : IsAtRest k m.work.state
    pub calm : NoneStops m.work.state.stack
    pub settled : m.work.resumed.items.items ≡ []

  -- one operation waits to be carried on, of which nothing is left to do, and there is room to note its end
  pub record WaitsAtEnd (o : OpId) (m : Parts F B) : Type 0 where
    pub waits : m.work.resumed.items.items ≡ o ∷ []
    pub done : IsDoneAt k o m.work.state
    pub room : length m.finished.items.items < deque_capacity m.finished.items

  -- an operation is carried to its end
  abbrev pub CarriesIn : OpId → Parts F B → Turn → Parts F B → Type 0
  CarriesIn o old ended new =
      ArePlainFilters own.pre_may own.post_may own.is_quiet (numbered old.filters) → IsBegun k o old.work.state
      → (ended ≡ Turn.Done)
      × ((n : ℕ) × Carries own.pre_may own.post_may (BasesCarry below.folder below.faults) (numbered old.filters) k o n old.work.state
      old.bases.all.items new.work.state new.bases.all.items)

  -- what waits to be carried on stays
  abbrev pub ResumesNone : Parts F B → Parts F B → Type 0
  ResumesNone old new = ArePlainFilters own.pre_may own.post_may own.is_quiet (numbered old.filters) → new.work.resumed ≡ old.work.resumed

  -- an operation is carried to its end, its answer is taken, and what is due is cleaned up
  pub record RunsIn (o : OpId) (old : Parts F B) (said : Reply) (new : Parts F B) : Type 0 where
    pub answer : Answer
    pub says : said ≡ replied answer
    pub turns : ℕ
    pub done : World
    pub mid : World
    pub carries : Carries own.pre_may own.post_may (BasesCarry below.folder below.faults)
        (numbered old.filters) k o turns old.work.state old.bases.all.items done new.bases.all.items
    pub collects : Collects done o (Ok answer) mid
    pub tidies : Tidies mid new.work.state
    pub filters : new.filters ≡ old.filters
    pub settled : new.work.resumed.items.items ≡ []

  -- a request is done, and what is due is cleaned up
  pub record PerformsIn (what : Request) (old : Parts F B) (said : Reply) (new : Parts F B) : Type 0 where
    pub answer : Answer
    pub says : said ≡ replied answer
    pub does : DoesTidily own.pre_may own.post_may (BasesCarry below.folder below.faults) (numbered old.filters) k what old.work.state
        old.bases.all.items answer new.work.state new.bases.all.items
    pub filters : new.filters ≡ old.filters
    pub settled : new.work.resumed.items.items ≡ []

  -- a close whose cleanup has begun: the cleanup is done, and then the close, unless that ends it
  pub record ClosesIn (o : OpId) (h : HandleId) (old : Parts F B) (said : Reply) (new : Parts F B) : Type 0 where
    pub cleaned : Reply
    pub mid : Parts F B
    pub runs : RunsIn o old cleaned mid
    pub stops : goes_on cleaned ≡ false → (said ≡ cleaned) × Tidies mid.work.state new.work.state × (new.bases ≡ mid.bases)
        × (new.filters ≡ mid.filters) × (new.work.resumed.items.items ≡ [])
    pub closes : IsReady mid → goes_on cleaned ≡ true → PerformsIn (Request.OnHandle h FileRequest.Close) mid said new

  -- a request is answered as its fold says, and all is ready again, over the same instances
  pub record AnswersIn (what : Request) (old : Parts F B) (said : Reply) (new : Parts F B) : Type 0 where
    pub answer : Answer
    pub says : said ≡ replied answer
    pub folds : AnswersOne own.pre_may own.post_may (BasesCarry below.folder below.faults) (numbered old.filters) old.work.state.stack
        old.work.state.flow.next what
        (under old.bases.all.items old.work.state) answer (under new.bases.all.items new.work.state) new.work.state.flow.next
    pub ready : IsReady new
    pub stays : new.work.state.stack ≡ old.work.state.stack
    pub filters : new.filters ≡ old.filters

  -- requests answered one after the other, each as a manager that is ready answers it
  abbrev pub AnswersEach : List Request → Parts F B → List Reply → Parts F B → Type 0
  AnswersEach [] old [] new = new ≡ old
  AnswersEach (what ∷ requests) old (said ∷ replies) new = (mid : Parts F B) × (IsReady old → AnswersIn what old said mid)
      × AnswersEach requests mid replies new
  AnswersEach requests old replies new = ⊥

  -- the replies to a list of requests are those of its folds, and all is ready again
  pub record AreReplied (requests : List Request) (old : Parts F B) (replies : List Reply) (new : Parts F B) : Type 0 where
    pub answers : List Answer
    pub say : replies ≡ map replied answers
    pub fold : AnswersAll own.pre_may own.post_may (BasesCarry below.folder below.faults) (numbered old.filters) old.work.state.stack
        old.work.state.flow.next requests
        (under old.bases.all.items old.work.state) answers (under new.bases.all.items new.work.state) new.work.state.flow.next
    pub ready : IsReady new

  -- whatever is asked of a manager that is ready, by requests one after the other: it replies as the folds of its filters say
  abbrev pub RepliesAreFolds : Type 0
  RepliesAreFolds =
      (requests : List Request) (old : Parts F B) (replies : List Reply) (new : Parts F B)
      → IsReady old → AnswersEach requests old replies new → AreReplied requests old replies new
