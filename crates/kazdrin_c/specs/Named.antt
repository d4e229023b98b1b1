-- The event that C names by a number, with the fields that the event reads.
use Rattle.std.specs.Prelude.{ℕ, ◌==◌, Bool, cond, not, List, [], ◌∷◌, Option, Some, None, option_and_then, option_map, slice_get}
use Rattle.fm_types.specs.Majors.{major_at}
use Rattle.fm_types.specs.declared.operation.CreateMode.{CreateMode}
use Rattle.fm_types.specs.declared.operation.CreateMode.TheVariants as create
use Rattle.fm_types.specs.declared.context_kind.ContextKind.{ContextKind}
use Rattle.fm_types.specs.declared.context_kind.ContextKind.TheVariants as kind
use Rattle.fm_types.specs.declared.ids.CtxId.{CtxId}
use Rattle.fm_types.specs.declared.ids.FilterId.{FilterId}
use Rattle.fm_types.specs.declared.ids.HandleId.{HandleId}
use Rattle.fm_types.specs.declared.ids.InstanceId.{InstanceId}
use Rattle.fm_types.specs.declared.ids.OpId.{OpId}
use Rattle.fm_types.specs.declared.ids.VolumeId.{VolumeId}
use Rattle.fm_types.specs.declared.ids.WorkerId.{WorkerId}
use Rattle.fm_altitude.specs.Grammar.{canonical}
use Rattle.fm_types.specs.declared.registration.Registration.{Registration}
use Rattle.fm_types.specs.declared.status.Status.{Status}
use Rattle.fm_types.specs.declared.status.Status.TheVariants.{Success, NoMemory, BadAltitude, BadName, NameCollision, AltitudeCollision, NoFilter, NoVolume, NoInstance, NotLoaded, AlreadyLoaded, DoNotAttach, DoNotDetach, DeletingObject, NoHandle, BadPath, DeletePending, AccessDenied, DeviceFault, FileNotFound, AlreadyExists, NotRegistered, AlreadyDefined, AlreadyLinked, NoContext, NotHeld, HandFull, NoObject, NotPended, TooMany, WrongStep, EndOfFile, BadRequest, Dismounting, Busy}
use Rattle.fm_callback_data.specs.declared.params.Params.{Params}
use Rattle.fm_callback_data.specs.declared.params.Params.TheVariants as params
use Rattle.fm_callback_data.specs.declared.request.FileRequest.{FileRequest}
use Rattle.fm_callback_data.specs.declared.request.FileRequest.TheVariants as file
use Rattle.fm_callback_data.specs.declared.request.Request.{Request}
use Rattle.fm_callback_data.specs.declared.request.Request.TheVariants as request
use Rattle.fm_world.specs.declared.begins_from.BeginsFrom.TheVariants as from
use Rattle.fm_callback_data.specs.declared.verdict.Completion.{Completion}
use Rattle.fm_callback_data.specs.declared.verdict.PreVerdict.{PreVerdict}
use Rattle.fm_callback_data.specs.declared.verdict.PreVerdict.TheVariants as verdict
use Rattle.fm_callback_data.specs.declared.verdict.PostVerdict.{PostVerdict}
use Rattle.fm_callback_data.specs.declared.verdict.PostVerdict.TheVariants as post
use Rattle.fm_ctx.specs.declared.set_reply.SetMode.{SetMode}
use Rattle.fm_ctx.specs.declared.set_reply.SetMode.TheVariants as set
use Rattle.fm_operations.specs.declared.hold.Hold.{Hold}
use Rattle.fm_operations.specs.declared.hold.Hold.TheVariants as hold
use Rattle.fm_world.specs.declared.step.Step.{Step}
use Rattle.fm_world.specs.declared.step.Step.TheVariants as step
use Rattle.kazdrin_c.specs.declared.event.KazdrinEvent.{KazdrinEvent}

abbrev pub create_mode_named : ℕ → Option CreateMode
create_mode_named n = cond (n == 0) (Some create.Existing) (cond (n == 1) (Some create.New) (cond (n == 2) (Some create.Always) None))

abbrev pub kind_named : ℕ → Option ContextKind
kind_named n = cond (n == 0) (Some kind.Volume) (cond (n == 1) (Some kind.Instance) (cond (n == 2) (Some kind.Stream)
    (cond (n == 3) (Some kind.Handle) (cond (n == 4) (Some kind.File) None))))

abbrev pub set_mode_named : ℕ → Option SetMode
set_mode_named n = cond (n == 0) (Some set.Keep) (cond (n == 1) (Some set.Replace) None)

abbrev pub hold_named : ℕ → Option Hold
hold_named n = cond (n == 0) (Some hold.Pre) (cond (n == 1) (Some hold.Post) None)

abbrev pub post_named : ℕ → Option PostVerdict
post_named n = cond (n == 0) (Some post.Finished) (cond (n == 1) (Some post.MoreProcessing) None)

-- the statuses by their numbers, with the count of Busy
abbrev pub statuses : ℕ → List Status
statuses count =
    Success ∷ NoMemory ∷ BadAltitude ∷ BadName ∷ NameCollision ∷ AltitudeCollision ∷ NoFilter ∷ NoVolume ∷ NoInstance ∷ NotLoaded
    ∷ AlreadyLoaded ∷ DoNotAttach ∷ DoNotDetach ∷ DeletingObject ∷ NoHandle ∷ BadPath ∷ DeletePending ∷ AccessDenied ∷ DeviceFault
    ∷ FileNotFound ∷ AlreadyExists ∷ NotRegistered ∷ AlreadyDefined ∷ AlreadyLinked ∷ NoContext ∷ NotHeld ∷ HandFull ∷ NoObject
    ∷ NotPended ∷ TooMany ∷ WrongStep ∷ EndOfFile ∷ BadRequest ∷ Dismounting ∷ Busy count ∷ []

unfoldable pub status_at : ℕ → ℕ → Option Status
status_at n count = slice_get (statuses count) n

abbrev pub flag_in : KazdrinEvent → Bool
flag_in e = not (e.flag == 0)

abbrev pub worker_in : KazdrinEvent → WorkerId
worker_in e = record { 0 = e.worker }

abbrev pub filter_in : KazdrinEvent → FilterId
filter_in e = record { 0 = e.filter }

abbrev pub volume_in : KazdrinEvent → VolumeId
volume_in e = record { 0 = e.volume }

abbrev pub instance_in : KazdrinEvent → InstanceId
instance_in e = record { 0 = e.instance }

abbrev pub operation_in : KazdrinEvent → OpId
operation_in e = record { 0 = e.operation }

abbrev pub handle_in : KazdrinEvent → HandleId
handle_in e = record { 0 = e.handle }

abbrev pub context_in : KazdrinEvent → CtxId
context_in e = record { slot = e.slot; generation = e.generation }

abbrev pub registration_in : KazdrinEvent → Registration
registration_in e = record {
  pre = record { 0 = e.pre };
  post = record { 0 = e.post };
  contexts = record { 0 = e.contexts };
  query = not (e.query == 0);
  unload = not (e.unload == 0);
}

abbrev pub completion_in : KazdrinEvent → Completion
completion_in e = record { number = e.number; context = cond (e.flag == 0) None (Some (context_in e)) }

abbrev pub verdict_named : KazdrinEvent → Option PreVerdict
verdict_named e =
    cond (e.mode == 0) (Some (verdict.WithCallback (completion_in e)))
    (cond (e.mode == 1) (Some (verdict.Synchronize (completion_in e)))
    (cond (e.mode == 2) (Some verdict.NoCallback)
    (cond (e.mode == 3) (option_map verdict.Complete (status_at e.status e.number))
    (cond (e.mode == 4) (Some verdict.Pending) None))))

-- the handle that a routine is on, if it is on one
abbrev pub file_handle_in : KazdrinEvent → Option HandleId
file_handle_in e = cond (e.flag == 0) None (Some (handle_in e))

abbrev pub routine_named : KazdrinEvent → Option Step
routine_named e =
    cond (e.event == 47) (Some (step.EnterRoutine (worker_in e) (instance_in e) (file_handle_in e)))
    (cond (e.event == 48) (Some (step.RoutineReturned (worker_in e))) None)

abbrev pub unload_named : KazdrinEvent → Option Step
unload_named e =
    cond (e.event == 38) (Some (step.AskUnload (worker_in e) (filter_in e)))
    (cond (e.event == 39) (Some (step.UnloadReturned (worker_in e) (flag_in e)))
    (cond (e.event == 40) (Some (step.ForceUnload (filter_in e)))
    (cond (e.event == 41) (Some (step.EmptyFilter (filter_in e)))
    (cond (e.event == 42) (Some (step.FinishFilter (filter_in e)))
    (cond (e.event == 43) (Some (step.StartDismount (volume_in e)))
    (cond (e.event == 44) (Some (step.DropHandle (volume_in e)))
    (cond (e.event == 45) (Some (step.EmptyVolume (volume_in e)))
    (cond (e.event == 46) (Some (step.FinishVolume (volume_in e))) (routine_named e)))))))))

abbrev pub teardown_named : KazdrinEvent → Option Step
teardown_named e =
    cond (e.event == 29) (Some (step.AskDetach (worker_in e) (instance_in e)))
    (cond (e.event == 30) (Some (step.QueryReturned (worker_in e) (flag_in e)))
    (cond (e.event == 31) (Some (step.StartTeardown (worker_in e) (instance_in e)))
    (cond (e.event == 32) (Some (step.StartReturned (worker_in e)))
    (cond (e.event == 33) (Some (step.DrainTake (worker_in e) (instance_in e)))
    (cond (e.event == 34) (Some (step.DrainDone (worker_in e)))
    (cond (e.event == 35) (Some (step.CompleteTeardown (worker_in e) (instance_in e)))
    (cond (e.event == 36) (Some (step.CompleteReturned (worker_in e)))
    (cond (e.event == 37) (Some (step.Finish (instance_in e))) (unload_named e)))))))))

abbrev pub request_named : KazdrinEvent → Option Step
request_named e =
    cond (e.event == 14) (option_map (step.ResumePre (worker_in e) (operation_in e)) (verdict_named e))
    (cond (e.event == 15) (Some (step.ResumePost (worker_in e) (operation_in e)))
    (cond (e.event == 16) (option_map (step.FirstHeld (worker_in e)) (hold_named e.mode))
    (cond (e.event == 17) (Some (step.Collect (operation_in e)))
    (cond (e.event == 27) (Some (step.TakeDue (worker_in e)))
    (cond (e.event == 28) (Some (step.Cleaned (worker_in e) e.number)) (teardown_named e))))))

abbrev pub context_named : KazdrinEvent → List ℕ → Option Step
context_named e bytes =
    cond (e.event == 18) (option_map (λ k. step.Allocate (worker_in e) k bytes) (kind_named e.kind))
    (cond (e.event == 19) (option_map (λ m. step.Set (worker_in e) (context_in e) m (flag_in e)) (set_mode_named e.mode))
    (cond (e.event == 20) (option_map (step.Get (worker_in e)) (kind_named e.kind))
    (cond (e.event == 21) (option_map (λ k. step.Delete (worker_in e) k (flag_in e)) (kind_named e.kind))
    (cond (e.event == 22) (Some (step.Reference (worker_in e) (context_in e)))
    (cond (e.event == 23) (Some (step.Release (worker_in e) (context_in e)))
    (cond (e.event == 24) (Some (step.ReadBody (worker_in e) (context_in e)))
    (cond (e.event == 25) (Some (step.WriteBody (worker_in e) (context_in e) bytes))
    (cond (e.event == 26) (Some (step.Bump (worker_in e) (context_in e) e.offset e.number)) (request_named e)))))))))

-- an operation that begins at the top for a client, below the event's instance for its filter, at the base for the file system, at the top for the cache or
-- memory manager, or at the base for the instance's filter
abbrev pub begun_named : KazdrinEvent → Request → Option Step
begun_named e what =
    cond (e.kind == 0) (Some (step.Begin what))
    (cond (e.kind == 1) (Some (step.BeginFrom (from.Below (instance_in e)) what))
    (cond (e.kind == 2) (Some (step.BeginFrom from.FileSystem what))
    (cond (e.kind == 3) (Some (step.BeginFrom from.Top what)) (cond (e.kind == 4) (Some (step.BeginFrom (from.Base (instance_in e)) what)) None))))

-- one on the event's handle
abbrev pub asks : KazdrinEvent → FileRequest → Option Step
asks e what = begun_named e (request.OnHandle (handle_in e) what)

abbrev pub file_named : KazdrinEvent → List ℕ → Option Step
file_named e bytes =
    cond (e.event == 6) (asks e (file.Read e.offset e.len))
    (cond (e.event == 7) (asks e (file.Write e.offset bytes))
    (cond (e.event == 8) (asks e file.QuerySize)
    (cond (e.event == 9) (asks e (file.SetSize e.offset))
    (cond (e.event == 10) (asks e file.Flush)
    (cond (e.event == 11) (asks e file.SetDelete)
    (cond (e.event == 12) (asks e file.Cleanup)
    (cond (e.event == 13) (asks e file.Close)
    (cond (e.event == 49) (asks e file.Restore)
    (cond (e.event == 50) (option_and_then (λ m. asks e (file.Other m e.offset)) (major_at e.mode)) (context_named e bytes))))))))))

-- the parameters of the operation that begins by the event of that number
abbrev pub params_at : ℕ → KazdrinEvent → List ℕ → Option Params
params_at n e bytes =
    cond (n == 4) (option_map (params.Create bytes) (create_mode_named e.mode))
    (cond (n == 5) (Some params.List)
    (cond (n == 6) (Some (params.Read e.offset e.len))
    (cond (n == 7) (Some (params.Write e.offset bytes))
    (cond (n == 8) (Some params.QuerySize)
    (cond (n == 9) (Some (params.SetSize e.offset))
    (cond (n == 10) (Some params.Flush)
    (cond (n == 11) (Some params.SetDelete)
    (cond (n == 12) (Some params.Cleanup)
    (cond (n == 13) (Some params.Close)
    (cond (n == 49) (Some params.Restore)
    (cond (n == 50) (option_map (λ m. params.Other m e.offset) (major_at e.mode)) None)))))))))))

-- those that the event's own number names
abbrev pub params_named : KazdrinEvent → List ℕ → Option Params
params_named e bytes = params_at e.event e bytes

-- a held operation's change, whose kind is the number of the parameters
abbrev pub change_named : KazdrinEvent → List ℕ → Option Step
change_named e bytes = option_map (step.ChangeHeld (worker_in e) (operation_in e)) (params_at e.kind e bytes)

-- the event of the number, with the bytes as its text, body or data; none for a number that names none
abbrev pub step_named : KazdrinEvent → List ℕ → Option Step
step_named e bytes =
    cond (e.event == 1) (Some (step.Register bytes (registration_in e)))
    (cond (e.event == 2) (Some (step.Mount bytes))
    (cond (e.event == 3) (Some (step.SetupDone (worker_in e) (flag_in e)))
    (cond (e.event == 4) (option_and_then (λ m. begun_named e (request.Create (volume_in e) bytes m)) (create_mode_named e.mode))
    (cond (e.event == 5) (begun_named e (request.List (volume_in e)))
    (cond (e.event == 51) (option_and_then (λ m. begun_named e (request.OnVolume (volume_in e) m e.offset)) (major_at e.mode))
    (cond (e.event == 52) (change_named e bytes) (file_named e bytes)))))))

-- the attachment of the event's filter to its volume, under that name and at that altitude
abbrev pub attach_named : KazdrinEvent → List ℕ → List ℕ → Step
attach_named e name altitude = step.Attach (worker_in e) (filter_in e) (volume_in e) name (canonical altitude)
