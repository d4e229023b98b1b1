-- How far the life of an instance, a filter or a volume has come, as C is told it, and what C is told of a callback's leaks.
use Rattle.std.specs.Prelude.{◌≡◌, ◌==◌, ℕ, Option, Some, None, cond, option_map, slice_get}
use Rattle.fm_stack.specs.declared.filter.Filter.{Filter}
use Rattle.fm_stack.specs.declared.filter.FilterPhase.{FilterPhase}
use Rattle.fm_stack.specs.declared.filter.FilterPhase.TheVariants as filter
use Rattle.fm_stack.specs.declared.instance.Instance.{Instance}
use Rattle.fm_stack.specs.declared.instance.Phase.{Phase}
use Rattle.fm_stack.specs.declared.instance.Phase.TheVariants as instance
use Rattle.fm_stack.specs.declared.volume.Volume.{Volume}
use Rattle.fm_stack.specs.declared.volume.VolumePhase.{VolumePhase}
use Rattle.fm_stack.specs.declared.volume.VolumePhase.TheVariants as volume
use Rattle.fm_world.specs.World.{World}
use Rattle.kazdrin_c.specs.declared.event.KazdrinEvent.{KazdrinEvent}
use Rattle.kazdrin_c.specs.declared.host.SessionHost.{SessionHost}
use Rattle.kazdrin_c.specs.declared.told.KazdrinTold.{KazdrinTold}
use Rattle.kazdrin_c.specs.Told.{nothing_told}

abbrev pub instance_code : Phase → ℕ
instance_code instance.Setup = 0
instance_code instance.Attached = 1
instance_code instance.Stopping = 2
instance_code instance.Completing = 3
instance_code instance.Emptying = 4
instance_code instance.Detached = 5

abbrev pub filter_code : FilterPhase → ℕ
filter_code filter.Loaded = 0
filter_code filter.Unloading = 1
filter_code filter.Emptied = 2
filter_code filter.NotLoaded = 3

abbrev pub volume_code : VolumePhase → ℕ
volume_code volume.Mounted = 0
volume_code volume.Dismounting = 1
volume_code volume.Emptied = 2
volume_code volume.Finished = 3

abbrev pub phase_told : Option ℕ → KazdrinTold
phase_told (Some code) = record nothing_told { number = code; has = 1 }
phase_told None = nothing_told

-- of the instance, the filter or the volume that an event names, by its mode: 0, 1 or 2; of no other
abbrev pub phase_named : World → KazdrinEvent → ℕ → Option ℕ
phase_named w e mode =
    cond (mode == 0) (option_map (λ (row : Instance). instance_code row.phase) (slice_get w.stack.instances e.instance))
    (cond (mode == 1) (option_map (λ (row : Filter). filter_code row.phase) (slice_get w.stack.filters e.filter))
    (cond (mode == 2) (option_map (λ (row : Volume). volume_code row.phase) (slice_get w.stack.volumes e.volume)) None))

-- kazdrin_phase: nothing changes but what is told
abbrev pub PhaseTold : KazdrinEvent → SessionHost → ℕ → SessionHost → KazdrinTold → Type 0
PhaseTold e old result new told = (result ≡ 0) × (new ≡ old) × (told ≡ phase_told (phase_named old.session.world e e.mode))
