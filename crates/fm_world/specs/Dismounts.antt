-- The events by which a volume is dismounted: the refusals of each, in their order, and what it makes of the World. Nobody is asked, no worker makes them,
-- and a refusal changes nothing.
use Rattle.std.specs.Prelude.{◌≡◌, ℕ, ◌==◌, Bool, false, count_by, find, Option, Some, None, Result}
use Rattle.fm_world.specs.Words.{HandleId, VolumeId, Status, first_of, Answers, has_create_on}
use Rattle.fm_stack.specs.Dismounting as volumes
use Rattle.fm_operations.specs.OnVolumes as operations
use Rattle.fm_ctx.specs.Counting.{open_on}
use Rattle.fm_ctx.specs.Settling.{is_linked_to}
use Rattle.fm_ctx.specs.declared.object.Object.TheVariants as object
use Rattle.fm_world.specs.declared.file.FileHandle.{FileHandle}
use Rattle.fm_world.specs.declared.file.FileStream.{FileStream}
use Rattle.fm_world.specs.Files.{FileTable, stream_at, closed, left}
use Rattle.fm_world.specs.Links.{LosesLinks}
use Rattle.fm_world.specs.World.{World}
use Rattle.fm_world.specs.Teardowns.{SweepsWhere}

-- ---- its start

-- its attached instances are stopping; Busy says how many of its operations weren't collected
unfoldable pub StartsDismount : World → VolumeId → Result (Unit {0}) Status → World → Type 0
StartsDismount old v result new =
    volumes.StartsDismount old.stack v (operations.left_on v old.flow) result new.stack × (new ≡ record old { stack = new.stack })

-- ---- its handles

-- a handle is on the volume of its stream
abbrev pub is_of : VolumeId → Option FileStream → Bool
is_of v None = false
is_of v (Some x) = x.volume.0 == v.0

abbrev pub is_handle_on : VolumeId → FileTable → FileHandle → Bool
is_handle_on v t x = is_of v (stream_at x.stream t)

-- how many handles are open on a volume
abbrev pub handles_on : VolumeId → FileTable → ℕ
handles_on v t = count_by (is_handle_on v t) t.handles

-- the one of the lowest number, since handles stand in the order of these
abbrev pub lowest_on : VolumeId → FileTable → Option FileHandle
lowest_on v t = find (is_handle_on v t) t.handles

-- it closes, and its stream is torn down with the last one; nothing is asked of the base, so a file that was marked for deletion stays
abbrev pub dropped : World → FileHandle → World
dropped w x = record w { files = left x.stream (has_create_on x.stream w.flow) (closed x.number w.files) }

-- contexts that were set on it, or on a stream that was torn down, lose their links
abbrev pub Drops : World → Option HandleId → World → Option FileHandle → Type 0
Drops old answer new None = (answer ≡ None) × (new ≡ old)
Drops old answer new (Some x) = (answer ≡ Some x.number) × LosesLinks (dropped old x) new

-- the lowest handle that is open on the volume, if there is one
unfoldable pub DropsHandle : World → VolumeId → Result (Option HandleId) Status → World → Type 0
DropsHandle old v result new =
    Answers (first_of (volumes.unless_dismounting old.stack v)) result old new (λ answer. Drops old answer new (lowest_on v old.files))

-- ---- its end

-- the contexts that are set on the volume lose their links, whosever they are; Busy says how many handles are open on it, and instances on it not detached
unfoldable pub EmptiesVolume : World → VolumeId → Result (Unit {0}) Status → World → Type 0
EmptiesVolume old v result new =
    volumes.EmptiesVolume old.stack v (handles_on v old.files) result new.stack × SweepsWhere result (is_linked_to (object.Volume v)) old new.contexts
    × (new ≡ record old { stack = new.stack; contexts = new.contexts })

-- Busy says how many volume contexts that were allocated on the volume aren't cleaned
unfoldable pub FinishesVolume : World → VolumeId → Result (Unit {0}) Status → World → Type 0
FinishesVolume old v result new =
    volumes.FinishesVolume old.stack v (open_on old.contexts.slots v) result new.stack × (new ≡ record old { stack = new.stack })
