-- The event by which an operation begins that no client asks for: an instance's filter does, below that instance or at the base, or the file system at the base,
-- or the cache or memory manager at the top. A refusal changes nothing.
use Rattle.std.specs.Prelude.{◌≡◌, ℕ, ◌==◌, Bool, true, false, not, List, [], ◌∷◌, Option, Some, None, Result}
use Rattle.fm_world.specs.Words.{Instance, InstanceId, OpId, Status, VolumeId, FlowRecord, changed, first_of, AnswersOrMemory}
use Rattle.fm_types.specs.declared.status.Status.TheVariants as status
use Rattle.fm_callback_data.specs.declared.request.Request.{Request}
use Rattle.fm_callback_data.specs.declared.request.Request.TheVariants as request
use Rattle.fm_operations.specs.Table.{placed}
use Rattle.fm_world.specs.declared.begins_from.BeginsFrom.{BeginsFrom}
use Rattle.fm_world.specs.declared.begins_from.BeginsFrom.TheVariants as from
use Rattle.fm_world.specs.World.{World}
use Rattle.fm_world.specs.Owners.{row_at, is_left_by, keeps_links_by}
use Rattle.fm_world.specs.Routines.{volume_by}
use Rattle.fm_world.specs.Events.{or_else, begin_refused_at, after_begin}

-- the volume that a request is on; none where its handle isn't open
abbrev pub requested_volume : World → Request → Option VolumeId
requested_volume w (request.List v) = Some v
requested_volume w (request.Create v path mode) = Some v
requested_volume w (request.OnVolume v major number) = Some v
requested_volume w (request.OnHandle h asked) = volume_by w.files h

-- it is another one than the instance's
abbrev pub is_off_volume : Option Instance → Option VolumeId → Bool
is_off_volume (Some row) (Some v) = not (row.volume.0 == v.0)
is_off_volume _ _ = false

-- the instance whose filter asked for it; none where no filter did
abbrev pub asker_of : BeginsFrom → Option InstanceId
asker_of (from.Below i) = Some i
asker_of (from.Base i) = Some i
asker_of from.FileSystem = None
asker_of from.Top = None

-- it visits instances that were born before that: at the base none was
abbrev pub born_from : ℕ → BeginsFrom → ℕ
born_from births (from.Below i) = births
born_from births (from.Base i) = 0
born_from births from.FileSystem = 0
born_from births from.Top = births

-- an instance may ask from its setup up to the end of its teardown, on its own volume
abbrev pub asker_refusals : World → Option InstanceId → Request → List (Bool × Status)
asker_refusals w (Some i) what =
    (not (is_left_by (row_at w.stack i)), status.NoInstance)
    ∷ (not (keeps_links_by (row_at w.stack i)), status.DeletingObject)
    ∷ (is_off_volume (row_at w.stack i) (requested_volume w what), status.BadRequest)
    ∷ []
asker_refusals w None what = []

abbrev pub from_refusals : World → BeginsFrom → Request → List (Bool × Status)
from_refusals w from what = asker_refusals w (asker_of from) what

-- it is its asker's until its answer is handed out, and of the instances that stand lower than that one it visits those that were born before it began; at
-- the base none; without an asker, those of the whole volume
abbrev pub placed_from : ℕ → BeginsFrom → FlowRecord → FlowRecord
placed_from births from r = placed (asker_of from) (born_from births from) r

abbrev pub placed_at : OpId → BeginsFrom → World → World
placed_at o from w = record w { flow = changed o (placed_from w.stack.births from) w.flow }

-- as a client's operation begins, but for its place
abbrev pub after_begin_from : World → BeginsFrom → Request → World
after_begin_from w from what = placed_at (record { 0 = w.flow.next }) from (after_begin w what)

-- what the instance may not ask is refused first, then what is refused to a client, but that a handle may be used between its cleanup and its close
unfoldable pub BeginsLower : World → BeginsFrom → Request → Result OpId Status → World → Type 0
BeginsLower old from what result new =
    AnswersOrMemory (or_else (first_of (from_refusals old from what)) (begin_refused_at true old what)) result old new
    (λ (o : OpId). (o.0 ≡ old.flow.next) × (new ≡ after_begin_from old from what))
