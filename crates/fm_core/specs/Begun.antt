-- Beginning an operation, step by step.
use Rattle.std.specs.Prelude.{◌≡◌, Bool, true, cond, [], Option, Some, None, Result, MatchResult}
use Rattle.fm_types.specs.Refusals.{AnswersOrMemory, first_of}
use Rattle.fm_types.specs.declared.ids.HandleId.{HandleId}
use Rattle.fm_types.specs.declared.ids.OpId.{OpId}
use Rattle.fm_types.specs.declared.ids.VolumeId.{VolumeId}
use Rattle.fm_types.specs.declared.status.Status.{Status}
use Rattle.fm_types.specs.declared.status.Status.TheVariants as status
use Rattle.fm_callback_data.specs.declared.params.Params.{Params}
use Rattle.fm_stack.specs.declared.volume.VolumePhase.{VolumePhase}
use Rattle.fm_stack.specs.Events.{is_mounted_phase}
use Rattle.fm_world.specs.declared.file.FileHandle.{FileHandle}
use Rattle.fm_world.specs.declared.file.FileStream.{FileStream}
use Rattle.fm_world.specs.Files.{stream_at, handle_at}
use Rattle.fm_world.specs.Events.{volume_refusals, asked_refused_at, asked_begun}
use Rattle.fm_world.specs.World.{World}
use Rattle.fm_types.specs.declared.ids.InstanceId.{InstanceId}
use Rattle.fm_operations.specs.Record.{FlowRecord}
use Rattle.fm_operations.specs.Table.{operation_at, is_full, begun}
use Rattle.fm_operations.specs.declared.stage.Stage.TheVariants.{Descending}
use Rattle.fm_world.specs.Owners.{is_left_by, row_at}
use Rattle.fm_world.specs.declared.begins_from.BeginsFrom.{BeginsFrom}
use Rattle.fm_world.specs.Initiators.{asker_of}

-- what refuses an operation on a volume in that phase
abbrev pub refusal_by : Option VolumePhase → Bool → Option Status
refusal_by None is_too_many = Some status.NoVolume
refusal_by (Some p) is_too_many = cond (is_mounted_phase p) (cond is_too_many (Some status.TooMany) None) (Some status.Dismounting)

-- the event on a volume, without a file
abbrev pub BeginsUnnamed : World → VolumeId → Params → Result OpId Status → World → Type 0
BeginsUnnamed old v p result new =
    AnswersOrMemory (first_of (volume_refusals old v (is_full old.flow))) result old new
    (λ (o : OpId). (o.0 ≡ old.flow.next) × (new ≡ record old { flow = begun v None None old.stack.births None p old.flow }))

-- the event on a handle, of parameters; lower says that a filter asks
unfoldable pub Asks : Bool → World → HandleId → Params → Result OpId Status → World → Type 0
Asks lower old h p result new =
    AnswersOrMemory (asked_refused_at lower old h p) result old new
    (λ (o : OpId). (o.0 ≡ old.flow.next) × (new ≡ asked_begun old h p))

-- the handle is open, with its volume, and nothing refuses the operation
pub record IsAsked (lower : Bool) (w : World) (h : HandleId) (p : Params) (x : FileHandle) (v : VolumeId) : Type 0 where
  pub stream : FileStream
  pub handle : handle_at h w.files ≡ Some x
  pub there : stream_at x.stream w.files ≡ Some stream
  pub volume : stream.volume ≡ v
  pub free : asked_refused_at lower w h p ≡ None

-- such an operation, or what refuses it
abbrev pub IsAskedOr : Bool → World → HandleId → Params → Result (FileHandle × VolumeId) Status → Type 0
IsAskedOr lower w h p result = MatchResult result (λ at. IsAsked lower w h p at.0 at.1) (λ status. asked_refused_at lower w h p ≡ Some status)

-- an operation that has just begun, and whoever asks for it is there
pub record MayPlace (w : World) (o : OpId) (begins : BeginsFrom) : Type 0 where
  pub row : FlowRecord
  pub there : operation_at o w.flow ≡ Some row
  pub entries : row.entries ≡ []
  pub stage : row.stage ≡ Descending
  pub left : (i : InstanceId) → asker_of begins ≡ Some i → is_left_by (row_at w.stack i) ≡ true
