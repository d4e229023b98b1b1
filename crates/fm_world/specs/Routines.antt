-- The events by which a worker does for an instance what its filter does outside of callbacks: in a work item, a thread, a timer. In a routine it may do
-- what a callback of the instance may. A refusal changes nothing.
use Rattle.std.specs.Prelude.{◌≡◌, ◌==◌, Bool, false, not, List, [], ◌∷◌, Option, Some, None, is_none, option_map, option_and_then, Result, Ok, Err}
use Rattle.fm_world.specs.Words.{HandleId, Instance, InstanceId, VolumeId, WorkerId, Status, first_of, Answers, Leaves}
use Rattle.fm_types.specs.declared.status.Status.TheVariants as status
use Rattle.fm_world.specs.declared.file.FileHandle.{FileHandle}
use Rattle.fm_world.specs.declared.file.FileObject.{FileObject}
use Rattle.fm_world.specs.declared.file.FileStream.{FileStream}
use Rattle.fm_world.specs.declared.place.Place.{Place}
use Rattle.fm_world.specs.declared.place.Place.TheVariants as place
use Rattle.fm_world.specs.Files.{FileTable, stream_at, handle_at}
use Rattle.fm_world.specs.World.{World, carries}
use Rattle.fm_world.specs.Workers.{worker_at, put, is_idle}
use Rattle.fm_world.specs.Owners.{row_at, is_left_by, is_flown_by}
use Rattle.fm_world.specs.Events.{Unless}

-- the file of an open handle, if one is named
abbrev pub file_by : FileTable → Option HandleId → Option FileObject
file_by t None = None
file_by t (Some h) = option_map (λ (x : FileHandle). record { stream = x.stream; handle = h }) (handle_at h t)

-- a handle is named that isn't open
abbrev pub lacks_handle : FileTable → Option HandleId → Bool
lacks_handle t None = false
lacks_handle t (Some h) = is_none (handle_at h t)

-- the volume of a handle's file
abbrev pub volume_by : FileTable → HandleId → Option VolumeId
volume_by t h = option_map (λ (y : FileStream). y.volume) (option_and_then (λ (x : FileHandle). stream_at x.stream t) (handle_at h t))

abbrev pub is_on_volume : Option Instance → Option VolumeId → Bool
is_on_volume (Some row) (Some v) = row.volume.0 == v.0
is_on_volume _ _ = false

-- a handle is named whose file is on another volume than the instance
abbrev pub is_elsewhere : World → InstanceId → Option HandleId → Bool
is_elsewhere w i None = false
is_elsewhere w i (Some h) = not (is_on_volume (row_at w.stack i) (volume_by w.files h))

-- only of an instance whose setup is over, up to the end of its teardown
abbrev pub routine_refusals : World → InstanceId → Option HandleId → List (Bool × Status)
routine_refusals w i h =
    (not (is_left_by (row_at w.stack i)), status.NoInstance)
    ∷ (not (is_flown_by (row_at w.stack i)), status.DeletingObject)
    ∷ (lacks_handle w.files h, status.NoHandle)
    ∷ (is_elsewhere w i h, status.BadRequest)
    ∷ []

-- by an idle worker, which then is in the routine
unfoldable pub EntersRoutine : World → WorkerId → InstanceId → Option HandleId → Result (Unit {0}) Status → World → Type 0
EntersRoutine old k i h result new =
    Unless status.WrongStep (is_idle (worker_at old.workers k)) result old new
    (Answers (first_of (routine_refusals old i h)) result old new
    (λ done. new ≡ record old { workers = put old.workers k (place.Routine i (file_by old.files h)) }))

-- by a worker in a routine: what it still holds leaks
abbrev pub RoutineReturnsAt : World → WorkerId → Result (Unit {0}) Status → World → Option Place → Type 0
RoutineReturnsAt old k result new (Some (place.Routine i file)) =
    (result ≡ Ok tt) × Leaves (carries old) old.contexts new.contexts k.0
    × (new ≡ record old { workers = put old.workers k place.Idle; contexts = new.contexts })
RoutineReturnsAt old k result new _ = (result ≡ Err status.WrongStep) × (new ≡ old)

unfoldable pub RoutineReturns : World → WorkerId → Result (Unit {0}) Status → World → Type 0
RoutineReturns old k result new = RoutineReturnsAt old k result new (worker_at old.workers k)
