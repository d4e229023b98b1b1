-- The events: the refusals of each, in their order, and what it makes of the World. A refusal changes nothing, but for the end of a setup callback.
-- (The events on contexts stand in ContextEvents.)
-- An event that a worker makes is refused first of all, with WrongStep, where the worker isn't in the right place.
use Rattle.std.specs.Prelude.{◌≡◌, ℕ, ◌+◌, ◌-◌, ◌^◌, ◌==◌, ◌&&◌, ◌||◌, Bool, true, false, cond, not, List, [], ◌∷◌, length, nat_le, Option, Some, None, is_none, Result, Ok, Err, slice_get}
use Rattle.fm_world.specs.Words.{FilterId, VolumeId, InstanceId, OpId, WorkerId, HandleId, StreamId, CtxId, Status, Operation, first_of, Answers, AnswersOrMemory}
use Rattle.fm_world.specs.Words.{Params, Answer, Instance, Phase, StackWorld, IsNextInstance, has_pre_in, has_post_in, holds, hand_of, ContextTable, grabbed}
use Rattle.fm_world.specs.Words.{handed_on, Leaves, Sweeps, is_linked_of, FlowAction, Ask, PreState, Descending, FlowRecord, owed, visited, creates}
use Rattle.fm_world.specs.Words.{has_create_on, is_create, FlowTable, carried, operation_at, changed, told, begun, is_full, collect_reply, collected_of}
use Rattle.fm_types.specs.declared.registration.Registration.{Registration}
use Rattle.fm_callback_data.specs.Calls.{BaseCall}
use Rattle.fm_callback_data.specs.declared.verdict.PreVerdict.{PreVerdict}
use Rattle.fm_callback_data.specs.declared.verdict.PostVerdict.{PostVerdict}
use Rattle.fm_callback_data.specs.declared.verdict.Completion.{Completion}
use Rattle.fm_callback_data.specs.Data.{Data, data_fits}
use Rattle.fm_callback_data.specs.Params.{is_within_limits, operation_of}
use Rattle.fm_operations.specs.declared.action.Below.{Below}
use Rattle.fm_operations.specs.declared.entry.PreState.TheVariants.{Passed}
use Rattle.fm_operations.specs.Steps.{next_of, pre_returned_of, pre_settled, base_returned_of, post_returned_of, post_settled, drain_returned_of, base_fits}
use Rattle.fm_operations.specs.Holds.{is_held, IsFirstHeld, sync_of}
use Rattle.fm_operations.specs.declared.hold.Hold.{Hold}
use Rattle.fm_operations.specs.declared.hold.Hold.TheVariants as hold
use Rattle.fm_operations.specs.declared.entry.PostState.TheVariants as post
use Rattle.fm_operations.specs.Verdict.{verdict_counted}
use Rattle.fm_types.specs.declared.operation.CreateMode.{CreateMode}
use Rattle.fm_types.specs.declared.status.Status.TheVariants as status
use Rattle.fm_types.specs.declared.operation.Operation.TheVariants as kind
use Rattle.fm_callback_data.specs.declared.params.Params.TheVariants as params
use Rattle.fm_callback_data.specs.declared.verdict.PreVerdict.TheVariants as verdict
use Rattle.fm_stack.specs.declared.instance.Phase.TheVariants as stage
use Rattle.fm_stack.specs.Events as stack
use Rattle.fm_operations.specs.declared.action.Below.TheVariants as below
use Rattle.fm_operations.specs.declared.action.FlowAction.TheVariants as action
use Rattle.fm_operations.specs.declared.entry.PreState.TheVariants as state
use Rattle.fm_ctx.specs.declared.owner.Owner.TheVariants as owner
use Rattle.fm_callback_data.specs.declared.request.Request.{Request}
use Rattle.fm_callback_data.specs.declared.request.Request.TheVariants as request
use Rattle.fm_world.specs.declared.place.Place.{Place}
use Rattle.fm_world.specs.declared.place.Place.TheVariants as place
use Rattle.fm_world.specs.Descent.{cursor_of}
use Rattle.fm_world.specs.Links.{LosesLinks}
use Rattle.fm_world.specs.World.{World, carries}
use Rattle.fm_callback_data.specs.Requests.{params_of}
use Rattle.fm_world.specs.Requests.{phase_refusal_at}
use Rattle.fm_world.specs.Files.{FileTable, stream_at, handle_at, stream_for, created, phased, has_other_handle, is_marked, after_base, after_pre}
use Rattle.fm_world.specs.declared.file.FileHandle.{FileHandle}
use Rattle.fm_world.specs.declared.file.FileStream.{FileStream}
use Rattle.fm_world.specs.declared.file.HandlePhase.TheVariants as phase
use Rattle.fm_world.specs.Workers.{worker_at, put, is_idle, after_attach, after_next}
use Rattle.fm_world.specs.Owners.{place_in}

-- the event where the test holds, and else a refusal that changes nothing
abbrev pub Unless : {T : Type 0} → Status → Bool → Result T Status → World → World → Type 0 → Type 0
Unless refusal true result old new Event = Event
Unless refusal false result old new Event = (result ≡ Err refusal) × (new ≡ old)

-- ---- filters, volumes, instances

unfoldable pub Registers : World → List ℕ → Registration → Result FilterId Status → World → Type 0
Registers old name registration result new =
    stack.Registers old.stack name registration result new.stack × (new ≡ record old { stack = new.stack })

unfoldable pub Mounts : World → List ℕ → Result VolumeId Status → World → Type 0
Mounts old name result new = stack.Mounts old.stack name result new.stack × (new ≡ record old { stack = new.stack })

-- by an idle worker, which then is in the setup callback
unfoldable pub Attaches : World → WorkerId → FilterId → VolumeId → List ℕ → List ℕ → Result InstanceId Status → World → Type 0
Attaches old k f v name altitude result new =
    Unless status.WrongStep (is_idle (worker_at old.workers k)) result old new
    (stack.Attaches old.stack f v name altitude result new.stack
    × (new ≡ record old { stack = new.stack; workers = after_attach old.workers k result }))

-- where the instance isn't attached, its contexts lose their links
abbrev pub EmptiesUnless : Result (Unit {0}) Status → InstanceId → World → ContextTable → ContextTable → Type 0
EmptiesUnless (Ok done) i w left after = after ≡ left
EmptiesUnless (Err status) i w left after = Sweeps (carries w) (is_linked_of (owner.Instance i)) left after

-- by a worker in a setup callback, which returns whatever the answer: what it still holds leaks
abbrev pub SetsUpAt : World → WorkerId → Bool → Result (Unit {0}) Status → World → Option Place → Type 0
SetsUpAt old k accept result new (Some (place.Setup i)) =
    stack.SetsUp old.stack i accept result new.stack
    × (left : ContextTable) × Leaves (carries old) old.contexts left k.0 × EmptiesUnless result i old left new.contexts
    × (new ≡ record old { stack = new.stack; workers = put old.workers k place.Idle; contexts = new.contexts })
SetsUpAt old k accept result new _ = (result ≡ Err status.WrongStep) × (new ≡ old)

unfoldable pub SetsUp : World → WorkerId → Bool → Result (Unit {0}) Status → World → Type 0
SetsUp old k accept result new = SetsUpAt old k accept result new (worker_at old.workers k)

-- ---- operations begin

-- a volume that isn't there, or isn't in use; and too many of something
abbrev pub volume_refusals : World → VolumeId → Bool → List (Bool × Status)
volume_refusals w v is_too_many =
    (nat_le (length w.stack.volumes) v.0, status.NoVolume)
    ∷ (not (stack.is_mounted (slice_get w.stack.volumes v.0)), status.Dismounting)
    ∷ (is_too_many, status.TooMany)
    ∷ []

-- 4,096 handles at once, with those that creates under way may give; and no number twice
abbrev pub has_no_handle_left : World → Bool
has_no_handle_left w = nat_le 4096 (length w.files.handles + creates w.flow) || (w.files.next == 2 ^ 64 - 1)

-- that refusal, or else another
abbrev pub or_else : Option Status → Option Status → Option Status
or_else (Some refusal) others = Some refusal
or_else None others = others

-- a handle's phase refuses first, then its volume; lower says that a filter asks
abbrev pub refused_on_at : Bool → World → Params → FileHandle → Option FileStream → Option Status
refused_on_at lower w p x None = Some status.NoHandle
refused_on_at lower w p x (Some y) = or_else (phase_refusal_at lower w.flow (operation_of p) x.phase) (first_of (volume_refusals w y.volume (is_full w.flow)))

abbrev pub refused_at_by : Bool → World → Params → Option FileHandle → Option Status
refused_at_by lower w p None = Some status.NoHandle
refused_at_by lower w p (Some x) = refused_on_at lower w p x (stream_at x.stream w.files)

abbrev pub asked_refused_at : Bool → World → HandleId → Params → Option Status
asked_refused_at lower w h p = cond (is_within_limits p) (refused_at_by lower w p (handle_at h w.files)) (Some status.BadRequest)

abbrev pub begin_refused_at : Bool → World → Request → Option Status
begin_refused_at lower w (request.List v) = first_of (volume_refusals w v (is_full w.flow))
begin_refused_at lower w (request.Create v path mode) = first_of (volume_refusals w v (is_full w.flow || has_no_handle_left w))
begin_refused_at lower w (request.OnVolume v major number) = first_of (volume_refusals w v (is_full w.flow))
begin_refused_at lower w (request.OnHandle h asked) = asked_refused_at lower w h (params_of asked)

-- what a client asks is refused so
abbrev pub begin_refused : World → Request → Option Status
begin_refused w what = begin_refused_at false w what

-- a cleanup and a close move the handle's end on
abbrev pub moved_on : Operation → HandleId → ℕ → FileTable → FileTable
moved_on kind.Cleanup h n t = phased h (phase.CleaningUp (record { 0 = n })) t
moved_on kind.Close h n t = phased h phase.Closing t
moved_on _ h n t = t

abbrev pub begun_on : World → HandleId → Params → FileHandle → Option FileStream → World
begun_on w h p x None = w
begun_on w h p x (Some y) = record w {
  flow = begun y.volume (Some x.stream) (Some h) w.stack.births (Some y.path) p w.flow;
  files = moved_on (operation_of p) h w.flow.next w.files;
}

abbrev pub begun_at : World → HandleId → Params → Option FileHandle → World
begun_at w h p None = w
begun_at w h p (Some x) = begun_on w h p x (stream_at x.stream w.files)

abbrev pub asked_begun : World → HandleId → Params → World
asked_begun w h p = begun_at w h p (handle_at h w.files)

abbrev pub created_begun : World → VolumeId → List ℕ → CreateMode → World
created_begun w v path mode = record w {
  flow = begun v (Some (stream_for v path w.flow.next w.files)) None w.stack.births (Some path) (params.Create path mode) w.flow;
  files = created v path w.flow.next w.files;
}

abbrev pub after_begin : World → Request → World
after_begin w (request.List v) = record w { flow = begun v None None w.stack.births None params.List w.flow }
after_begin w (request.Create v path mode) = created_begun w v path mode
after_begin w (request.OnVolume v major number) = record w { flow = begun v None None w.stack.births None (params.Other major number) w.flow }
after_begin w (request.OnHandle h asked) = asked_begun w h (params_of asked)

abbrev pub BeginsAt : Bool → World → Request → Result OpId Status → World → Type 0
BeginsAt lower old what result new =
    AnswersOrMemory (begin_refused_at lower old what) result old new
    (λ (o : OpId). (o.0 ≡ old.flow.next) × (new ≡ after_begin old what))

unfoldable pub Begins : World → Request → Result OpId Status → World → Type 0
Begins old what result new = BeginsAt false old what result new

-- ---- the next callback or call of an operation

-- whether the filter of an instance has a callback before the operation, and after it
abbrev pub has_pre : StackWorld → Option Instance → Operation → Bool
has_pre s None operation = false
has_pre s (Some row) operation = has_pre_in (slice_get s.filters row.filter.0) operation

abbrev pub has_post : StackWorld → Option Instance → Operation → Bool
has_post s None operation = false
has_post s (Some row) operation = has_post_in (slice_get s.filters row.filter.0) operation

-- a close unlinks the file, by a call of the base, where it closes the last handle of a marked stream and no create of it is under way
abbrev pub unlinks : FileTable → FlowTable → StreamId → HandleId → Bool
unlinks f t s h = is_marked s f && not (has_other_handle s h f || has_create_on s t)

-- the base's answer to an operation on a handle that is open, where no device is called for it
abbrev pub known_on : FileTable → FlowTable → Operation → StreamId → HandleId → Option Status
known_on f t kind.SetDelete s h = Some status.Success
known_on f t kind.Restore s h = Some status.Success
known_on f t kind.Cleanup s h = Some status.Success
known_on f t kind.Close s h = cond (unlinks f t s h) None (Some status.Success)
known_on f t _ s h = None

abbrev pub known_at : FileTable → FlowTable → Operation → Option StreamId → Option HandleId → Option Status
known_at f t operation (Some s) (Some h) = cond (is_none (handle_at h f)) (Some status.NoHandle) (known_on f t operation s h)
known_at f t operation _ _ = None

-- a create is refused where the file is marked for deletion
abbrev pub known_create : FileTable → Option StreamId → Option Status
known_create f None = None
known_create f (Some s) = cond (is_marked s f) (Some status.DeletePending) None

-- what the base answers without a call of the device, and no answer where there is one
abbrev pub base_known : FileTable → FlowTable → FlowRecord → Option Status
base_known f t r = cond (is_create r.operation) (known_create f r.stream) (known_at f t r.operation r.stream r.handle)

-- what an operation finds below its last visit, or below where it began: the next instance, or the base
abbrev pub LiesBelow : StackWorld → FlowRecord → Below → Type 0
LiesBelow s r (below.Instance i is_called) =
    IsNextInstance s r.volume (cursor_of r.below (visited r.entries)) r.born r.operation (Some i)
    × (is_called ≡ has_pre s (slice_get s.instances i.0) r.operation)
LiesBelow s r below.Call = IsNextInstance s r.volume (cursor_of r.below (visited r.entries)) r.born r.operation None
LiesBelow s r (below.Known status) = IsNextInstance s r.volume (cursor_of r.below (visited r.entries)) r.born r.operation None

-- the base is called, or its answer is known
abbrev pub AnswersBelow : FileTable → FlowTable → FlowRecord → Below → Type 0
AnswersBelow f t r (below.Instance i is_called) = Unit {0}
AnswersBelow f t r below.Call = base_known f t r ≡ None
AnswersBelow f t r (below.Known status) = base_known f t r ≡ Some status

-- which matters on the way down alone
abbrev pub FindsBelow : StackWorld → FileTable → FlowTable → Option FlowRecord → Below → Type 0
FindsBelow s f t None lies = Unit {0}
FindsBelow s f t (Some r) lies = r.stage ≡ Descending → LiesBelow s r lies × AnswersBelow f t r lies

abbrev pub is_stopping_phase : Phase → Bool
is_stopping_phase stage.Stopping = true
is_stopping_phase _ = false

abbrev pub is_stopping_row : Option Instance → Bool
is_stopping_row None = false
is_stopping_row (Some row) = is_stopping_phase row.phase

abbrev pub is_stopping_ask : StackWorld → Option Ask → Bool
is_stopping_ask s None = false
is_stopping_ask s (Some ask) = is_stopping_row (slice_get s.instances ask.instance.0)

-- whether the instance that is owed the next postoperation is being torn down, so that it is drained
abbrev pub drains_next : StackWorld → FlowRecord → Bool
drains_next s r = is_stopping_ask s (slice_get (owed r.entries) 0)

abbrev pub drains_at : World → OpId → Bool
drains_at w o = told (drains_next w.stack) false o w.flow

-- a completion's context is in the worker's hand again
abbrev pub brought : ContextTable → WorkerId → Option CtxId → ContextTable
brought t k None = t
brought t k (Some c) = grabbed t k.0 c

abbrev pub received : ContextTable → WorkerId → Result FlowAction Status → ContextTable
received t k (Ok (action.Post i lent completion)) = brought t k completion.context
received t k (Ok (action.Drain i completion)) = brought t k completion.context
received t k _ = t

-- whether another create of an operation's stream is under way
abbrev pub is_created_on : Option StreamId → FlowTable → Bool
is_created_on None t = false
is_created_on (Some s) t = has_create_on s t

-- streams and handles after the base's answer to a record, which is answered by then
abbrev pub filed_record : FileTable → FlowTable → Status → FlowRecord → FileTable
filed_record files t status r = after_base r.operation r.stream r.handle status (is_created_on r.stream t) files

abbrev pub filed_base : World → OpId → FlowTable → Status → FileTable
filed_base w o t status = told (filed_record w.files t status) w.files o w.flow

-- an answer that was known without a call counts at once
abbrev pub filed_next : World → OpId → FlowTable → Result FlowAction Status → Below → FileTable
filed_next w o t (Ok action.Moved) (below.Known status) = filed_base w o t status
filed_next w o t _ _ = w.files

abbrev pub flow_after_next : World → WorkerId → OpId → Below → FlowTable
flow_after_next w k o lies = changed o (λ r. (next_of k lies (drains_at w o) r).after) w.flow

abbrev pub NextsOver : World → WorkerId → OpId → Below → Result FlowAction Status → World → Type 0
NextsOver old k o lies result new =
    (result ≡ told (λ r. (next_of k lies (drains_at old o) r).reply) (Err status.WrongStep) o old.flow)
    × (new ≡ record old {
      flow = flow_after_next old k o lies;
      workers = after_next old.workers k o result;
      contexts = received old.contexts k result;
      files = filed_next old o (flow_after_next old k o lies) result lies;
    })

-- an answer that was known without a call may take away what links name; else nothing goes
abbrev pub LosesByKnown : Result FlowAction Status → Below → World → World → Type 0
LosesByKnown (Ok action.Moved) (below.Known status) mid new = LosesLinks mid new
LosesByKnown result lies mid new = new ≡ mid

-- what is below is found, the operation goes on, and the links to what is gone by then go
abbrev pub NextsAt : World → WorkerId → OpId → Result FlowAction Status → World → Type 0
NextsAt old k o result new =
    (lies : Below) × FindsBelow old.stack old.files old.flow (operation_at o old.flow) lies × (mid : World)
    × NextsOver old k o lies result mid × LosesByKnown result lies mid new

-- by an idle worker
unfoldable pub Nexts : World → WorkerId → OpId → Result FlowAction Status → World → Type 0
Nexts old k o result new =
    Unless status.WrongStep (is_idle (worker_at old.workers k)) result old new (NextsAt old k o result new)

-- ---- callbacks and calls return

-- a completion's context counts as none where the worker doesn't hold it
abbrev pub held_context : List CtxId → Option CtxId → Option CtxId
held_context hand None = None
held_context hand (Some c) = cond (holds hand c) (Some c) None

abbrev pub held_completion : List CtxId → Completion → Completion
held_completion hand completion = record completion { context = held_context hand completion.context }

abbrev pub of_hand : List CtxId → PreVerdict → PreVerdict
of_hand hand (verdict.WithCallback completion) = verdict.WithCallback (held_completion hand completion)
of_hand hand (verdict.Synchronize completion) = verdict.Synchronize (held_completion hand completion)
of_hand hand verdict.NoCallback = verdict.NoCallback
of_hand hand (verdict.Complete status) = verdict.Complete status
of_hand hand verdict.Pending = verdict.Pending

-- the verdict of instance i that counts
abbrev pub state_given : StackWorld → List CtxId → InstanceId → PreVerdict → FlowRecord → PreState
state_given s hand i given r = verdict_counted (of_hand hand given) r.operation (has_post s (slice_get s.instances i.0) r.operation)

abbrev pub state_at : World → WorkerId → OpId → InstanceId → PreVerdict → PreState
state_at w k o i given = told (state_given w.stack (hand_of w.contexts.hands k.0) i given) Passed o w.flow

-- the context that a verdict sends along with its completion goes out of the hand
abbrev pub sent_in : PreState → Option CtxId
sent_in (state.Asked completion) = completion.context
sent_in (state.Synchronized completion) = completion.context
sent_in _ = None

abbrev pub sent : ContextTable → WorkerId → Option CtxId → ContextTable
sent t k None = t
sent t k (Some c) = handed_on t k.0 c

-- how many references completions carry after a step of an operation
abbrev pub carries_after : World → OpId → (FlowRecord → FlowRecord) → CtxId → ℕ
carries_after w o step c = carried c (changed o step w.flow)

-- the worker is idle again, and the operation goes on as the step makes it
abbrev pub returned : World → WorkerId → OpId → (FlowRecord → FlowRecord) → World
returned w k o step = record w { flow = changed o step w.flow; workers = put w.workers k place.Idle }

-- the same at the end of a callback: what the worker still holds leaks
abbrev pub ReturnsFrom : World → WorkerId → OpId → (FlowRecord → FlowRecord) → ContextTable → World → Type 0
ReturnsFrom old k o step kept new =
    Leaves (carries_after old o step) kept new.contexts k.0 × (new ≡ record (returned old k o step) { contexts = new.contexts })

-- streams after a preoperation's verdict
abbrev pub filed_pre : World → OpId → FlowTable → PreState → FileTable
filed_pre w o t given = told (λ r. after_pre given r.operation r.stream (is_created_on r.stream t) w.files) w.files o w.flow

abbrev pub PreReturnsFrom : World → WorkerId → OpId → (FlowRecord → FlowRecord) → PreState → World → Type 0
PreReturnsFrom old k o step given new =
    Leaves (carries_after old o step) (sent old.contexts k (sent_in given)) new.contexts k.0
    × (new ≡ record (returned old k o step) { contexts = new.contexts; files = filed_pre old o (changed o step old.flow) given })

-- the links to a stream that went go last
abbrev pub PreReturnsOver : World → WorkerId → OpId → (FlowRecord → FlowRecord) → PreState → World → Type 0
PreReturnsOver old k o step given new = (mid : World) × PreReturnsFrom old k o step given mid × LosesLinks mid new

abbrev pub pre_step : World → WorkerId → OpId → InstanceId → PreVerdict → Data → FlowRecord → FlowRecord
pre_step w k o i given lent = pre_returned_of (state_at w k o i given) lent

-- strange data is refused, and the callback goes on
abbrev pub PreReturnsAt : World → WorkerId → PreVerdict → Data → Result (Unit {0}) Status → World → Option Place → Type 0
PreReturnsAt old k given lent result new (Some (place.Pre o i)) =
    Unless status.BadRequest (told (λ r. data_fits r.operation r.path lent) false o old.flow) result old new
    ((result ≡ Ok tt)
    × PreReturnsOver old k o (pre_step old k o i given lent) (state_at old k o i given) new)
PreReturnsAt old k given lent result new _ = (result ≡ Err status.WrongStep) × (new ≡ old)

unfoldable pub PreReturns : World → WorkerId → PreVerdict → Data → Result (Unit {0}) Status → World → Type 0
PreReturns old k given lent result new = PreReturnsAt old k given lent result new (worker_at old.workers k)

abbrev pub base_step : World → BaseCall → Answer → FlowRecord → FlowRecord
base_step w call answer = base_returned_of call answer (record { 0 = w.files.next })

abbrev pub base_returned : World → WorkerId → OpId → BaseCall → Answer → World
base_returned w k o call answer = record (returned w k o (base_step w call answer)) {
  files =
      filed_base w o (changed o (base_step w call answer) w.flow) answer.status;
}

abbrev pub BaseReturnsAt : World → WorkerId → BaseCall → Answer → Result (Unit {0}) Status → World → Option Place → Type 0
BaseReturnsAt old k call answer result new (Some (place.Base o)) =
    Unless status.BadRequest (told (base_fits call answer) false o old.flow) result old new
    ((result ≡ Ok tt)
    × LosesLinks (base_returned old k o call answer) new)
BaseReturnsAt old k call answer result new _ = (result ≡ Err status.WrongStep) × (new ≡ old)

unfoldable pub BaseReturns : World → WorkerId → BaseCall → Answer → Result (Unit {0}) Status → World → Type 0
BaseReturns old k call answer result new = BaseReturnsAt old k call answer result new (worker_at old.workers k)

-- a postoperation brings its data back; a drain has none, and its verdict counts as Finished
abbrev pub PostReturnsAt : World → WorkerId → PostVerdict → Option Data → Result (Unit {0}) Status → World → Option Place → Type 0
PostReturnsAt old k given (Some lent) result new (Some (place.Post o i)) =
    Unless status.BadRequest (told (λ r. data_fits r.operation r.path lent) false o old.flow) result old new
    ((result ≡ Ok tt) × ReturnsFrom old k o (post_returned_of given lent) old.contexts new)
PostReturnsAt old k given None result new (Some (place.Drain o i)) = (result ≡ Ok tt) × ReturnsFrom old k o (drain_returned_of i) old.contexts new
PostReturnsAt old k given None result new (Some (place.Post o i)) = (result ≡ Err status.BadRequest) × (new ≡ old)
PostReturnsAt old k given (Some lent) result new (Some (place.Drain o i)) = (result ≡ Err status.BadRequest) × (new ≡ old)
PostReturnsAt old k given lent result new _ = (result ≡ Err status.WrongStep) × (new ≡ old)

unfoldable pub PostReturns : World → WorkerId → PostVerdict → Option Data → Result (Unit {0}) Status → World → Type 0
PostReturns old k given lent result new = PostReturnsAt old k given lent result new (worker_at old.workers k)

-- ---- held operations go on

-- whether a callback of that kind of an instance holds the operation
abbrev pub is_held_by : World → Hold → OpId → InstanceId → Bool
is_held_by w kind o i = told (is_held kind i.0) false o w.flow

-- a verdict that lets the operation go on; to be synchronized a postoperation needs the worker of a preoperation that returns
abbrev pub lets_go : PreVerdict → Bool
lets_go verdict.Pending = false
lets_go (verdict.Synchronize completion) = false
lets_go _ = true

abbrev pub resume_pre_refused : World → OpId → InstanceId → PreVerdict → Option Status
resume_pre_refused w o i given = first_of ((not (lets_go given), status.BadRequest) ∷ (not (is_held_by w hold.Pre o i), status.NotPended) ∷ [])

-- the operation goes on as after a preoperation's return; the worker stays where it is, and its hand loses the completion's context alone
abbrev pub pre_resumed : World → WorkerId → OpId → PreState → World
pre_resumed w k o given = record w {
  flow = changed o (pre_settled given) w.flow;
  contexts = sent w.contexts k (sent_in given);
  files = filed_pre w o (changed o (pre_settled given) w.flow) given;
}

-- by a worker in a callback of the instance that holds it; the links to a stream that went go last
abbrev pub ResumesPreAt : World → WorkerId → OpId → PreVerdict → Result (Unit {0}) Status → World → Option InstanceId → Type 0
ResumesPreAt old k o given result new None = (result ≡ Err status.WrongStep) × (new ≡ old)
ResumesPreAt old k o given result new (Some i) =
    Answers (resume_pre_refused old o i given) result old new (λ done. LosesLinks (pre_resumed old k o (state_at old k o i given)) new)

unfoldable pub ResumesPre : World → WorkerId → OpId → PreVerdict → Result (Unit {0}) Status → World → Type 0
ResumesPre old k o given result new = ResumesPreAt old k o given result new (place_in (worker_at old.workers k))

abbrev pub resume_post_refused : World → OpId → InstanceId → Option Status
resume_post_refused w o i = first_of ((not (is_held_by w hold.Post o i), status.NotPended) ∷ [])

abbrev pub ResumesPostAt : World → OpId → Result (Unit {0}) Status → World → Option InstanceId → Type 0
ResumesPostAt old o result new None = (result ≡ Err status.WrongStep) × (new ≡ old)
ResumesPostAt old o result new (Some i) =
    Answers (resume_post_refused old o i) result old new (λ done. new ≡ record old { flow = changed o (post_settled post.Finished) old.flow })

unfoldable pub ResumesPost : World → WorkerId → OpId → Result (Unit {0}) Status → World → Type 0
ResumesPost old k o result new = ResumesPostAt old o result new (place_in (worker_at old.workers k))

-- the first operation that the instance holds is told, and nothing changes
abbrev pub FindsHeldAt : World → Hold → Result (Option OpId) Status → World → Option InstanceId → Type 0
FindsHeldAt old kind result new None = (result ≡ Err status.WrongStep) × (new ≡ old)
FindsHeldAt old kind result new (Some i) = (first : Option OpId) × (result ≡ Ok first) × IsFirstHeld kind i.0 old.flow first × (new ≡ old)

unfoldable pub FindsHeld : World → WorkerId → Hold → Result (Option OpId) Status → World → Type 0
FindsHeld old k kind result new = FindsHeldAt old kind result new (place_in (worker_at old.workers k))

-- the worker that alone would be given the operation's next postoperation: none where that isn't synchronized, and for a drain
abbrev pub sync_worker : World → OpId → Option WorkerId
sync_worker w o = told (λ r. sync_of (drains_next w.stack r) r) None o w.flow

-- ---- the answer is taken

unfoldable pub Collects : World → OpId → Result Answer Status → World → Type 0
Collects old o result new =
    (result ≡ told collect_reply (Err status.WrongStep) o old.flow) × (new ≡ record old { flow = collected_of o old.flow })
