-- What a callback or a routine may know of what it is called for: its instance, that one's filter and volume, and the operation.
use Rattle.std.specs.Prelude.{◌≡◌, Bool, true, is_some, Option, Some, None, option_map, option_and_then, slice_get, Result, Ok, Err}
use Rattle.fm_types.specs.declared.status.Status.TheVariants as status
use Rattle.fm_stack.specs.declared.volume.Volume.{Volume}
use Rattle.fm_world.specs.Words.{FlowRecord, FlowTable, Instance, InstanceId, OpId, Status, WorkerId, operation_at}
use Rattle.fm_world.specs.Owners.{operation_in, place_in, row_at}
use Rattle.fm_world.specs.Workers.{worker_at}
use Rattle.fm_world.specs.World.{World}
use Rattle.fm_world.specs.declared.about.About.{About}
use Rattle.fm_world.specs.declared.about.AboutOperation.{AboutOperation}

abbrev pub about_record : FlowRecord → AboutOperation
about_record r = record { number = r.number; kind = r.operation; handle = r.handle; path = r.path }

-- the operation that a callback is for
abbrev pub about_operation : FlowTable → Option OpId → Option AboutOperation
about_operation t o = option_map about_record (option_and_then (λ number. operation_at number t) o)

abbrev pub about_on : InstanceId → Instance → Option AboutOperation → Volume → About
about_on i row operation volume =
    record {
      instance = i;
      instance_name = row.name;
      filter = row.filter;
      altitude = row.altitude;
      volume = row.volume;
      volume_name = volume.name;
      operation = operation;
    }

abbrev pub about_at : World → Option AboutOperation → InstanceId → Option About
about_at w operation i =
    option_and_then (λ (row : Instance). option_map (about_on i row operation) (slice_get w.stack.volumes row.volume.0)) (row_at w.stack i)

-- what the callback that a worker is in is called for, if it is one of an instance
abbrev pub about_of : World → WorkerId → Option About
about_of w k =
    option_and_then (about_at w (about_operation w.flow (option_and_then operation_in (worker_at w.workers k)))) (place_in (worker_at w.workers k))

-- whether a path is among what is told, which gets one more owner then
abbrev pub tells_path : About → Bool
tells_path about = is_some (option_and_then (λ (o : AboutOperation). o.path) about.operation)

-- in no such callback that is refused; else it is told, or it has a path of which no more owners can be counted
abbrev pub TellsOf : Option About → Result About Status → Type 0
TellsOf None (Ok about) = ⊥
TellsOf None (Err why) = why ≡ status.WrongStep
TellsOf (Some told) (Ok about) = about ≡ told
TellsOf (Some told) (Err why) = (why ≡ status.NoMemory) × (tells_path told ≡ true)

unfoldable pub Tells : World → WorkerId → Result About Status → Type 0
Tells w k result = TellsOf (about_of w k) result
