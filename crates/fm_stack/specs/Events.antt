-- The events of this layer: the refusals of each in their order, and what it makes of the filters, volumes and instances.
use Rattle.std.specs.Prelude.{◌≡◌, ℕ, ◌+◌, List, [], ◌∷◌, ◌++◌, Bool, true, false, not, ◌&&◌, ◌||◌, nat_le, length, slice_get, Option, Some, None, Result, count_by}
use Rattle.std.specs.List.{list_any}
use Rattle.fm_types.specs.declared.ids.FilterId.{FilterId}
use Rattle.fm_types.specs.declared.ids.VolumeId.{VolumeId}
use Rattle.fm_types.specs.declared.ids.InstanceId.{InstanceId}
use Rattle.fm_types.specs.declared.status.Status.{Status}
use Rattle.fm_types.specs.declared.status.Status.TheVariants as status
use Rattle.fm_types.specs.declared.registration.Registration.{Registration}
use Rattle.fm_types.specs.Refusals.{first_of, AnswersOrMemory, AnswersWith}
use Rattle.fm_types.specs.Lists.{updated}
use Rattle.fm_stack.specs.declared.filter.Filter.{Filter}
use Rattle.fm_stack.specs.declared.filter.FilterPhase.{FilterPhase}
use Rattle.fm_stack.specs.declared.filter.FilterPhase.TheVariants as filter_phase
use Rattle.fm_stack.specs.declared.volume.Volume.{Volume}
use Rattle.fm_stack.specs.declared.volume.VolumePhase.{VolumePhase}
use Rattle.fm_stack.specs.declared.volume.VolumePhase.TheVariants as volume_phase
use Rattle.fm_stack.specs.declared.instance.Instance.{Instance}
use Rattle.fm_stack.specs.declared.instance.Phase.TheVariants as phase
use Rattle.fm_stack.specs.declared.instance.StartMark.TheVariants as mark
use Rattle.fm_stack.specs.StackWorld.{StackWorld}
use Rattle.fm_stack.specs.Instances.{is_live_on, is_setup, is_emptying, same_name, same_altitude}

-- filters

abbrev pub is_loaded_phase : FilterPhase → Bool
is_loaded_phase filter_phase.Loaded = true
is_loaded_phase _ = false

abbrev pub is_unloaded_phase : FilterPhase → Bool
is_unloaded_phase filter_phase.NotLoaded = true
is_unloaded_phase _ = false

-- whether the filter is there and loaded
abbrev pub is_loaded : Option Filter → Bool
is_loaded None = false
is_loaded (Some filter) = is_loaded_phase filter.phase

abbrev pub is_named : List ℕ → Filter → Bool
is_named name filter = same_name filter.name name && not (is_unloaded_phase filter.phase)

abbrev pub register_refusals : StackWorld → List ℕ → List (Bool × Status)
register_refusals s name =
    (list_any (is_named name) s.filters, status.AlreadyLoaded) ∷ (nat_le 16 (length s.filters), status.TooMany) ∷ []

abbrev pub new_filter : List ℕ → Registration → Filter
new_filter name registration = record { name = name; registration = registration; phase = filter_phase.Loaded }

abbrev pub registered : StackWorld → List ℕ → Registration → StackWorld
registered s name registration =
    record s { filters = s.filters ++ new_filter name registration ∷ [] }

unfoldable pub Registers : StackWorld → List ℕ → Registration → Result FilterId Status → StackWorld → Type 0
Registers old name registration result new =
    AnswersOrMemory (first_of (register_refusals old name)) result old new
    (λ (f : FilterId). (f.0 ≡ length old.filters) × (new ≡ registered old name registration))

-- volumes

abbrev pub is_mounted_phase : VolumePhase → Bool
is_mounted_phase volume_phase.Mounted = true
is_mounted_phase _ = false

-- whether the volume is there and no dismount of it has begun
abbrev pub is_mounted : Option Volume → Bool
is_mounted None = false
is_mounted (Some volume) = is_mounted_phase volume.phase

abbrev pub mount_refusals : StackWorld → List ℕ → List (Bool × Status)
mount_refusals s name =
    (list_any (λ (volume : Volume). same_name volume.name name) s.volumes, status.NameCollision)
    ∷ (nat_le 8 (length s.volumes), status.TooMany) ∷ []

abbrev pub new_volume : List ℕ → Volume
new_volume name = record { name = name; phase = volume_phase.Mounted }

abbrev pub mounted : StackWorld → List ℕ → StackWorld
mounted s name = record s { volumes = s.volumes ++ new_volume name ∷ [] }

unfoldable pub Mounts : StackWorld → List ℕ → Result VolumeId Status → StackWorld → Type 0
Mounts old name result new =
    AnswersOrMemory (first_of (mount_refusals old name)) result old new
    (λ (v : VolumeId). (v.0 ≡ length old.volumes) × (new ≡ mounted old name))

-- instances

abbrev pub has_name_on : VolumeId → List ℕ → Instance → Bool
has_name_on v name row = is_live_on v row && same_name row.name name

abbrev pub has_altitude_on : VolumeId → List ℕ → Instance → Bool
has_altitude_on v altitude row = is_live_on v row && same_altitude row.altitude altitude

abbrev pub attach_refusals : StackWorld → FilterId → VolumeId → List ℕ → List ℕ → List (Bool × Status)
attach_refusals s f v name altitude =
    (nat_le (length s.filters) f.0, status.NoFilter)
    ∷ (not (is_loaded (slice_get s.filters f.0)), status.NotLoaded)
    ∷ (nat_le (length s.volumes) v.0, status.NoVolume)
    ∷ (not (is_mounted (slice_get s.volumes v.0)), status.Dismounting)
    ∷ (list_any (has_name_on v name) s.instances, status.NameCollision)
    ∷ (list_any (has_altitude_on v altitude) s.instances, status.AltitudeCollision)
    ∷ (nat_le 32 (count_by (is_live_on v) s.instances) || nat_le 4096 (length s.instances), status.TooMany)
    ∷ []

abbrev pub new_instance : FilterId → VolumeId → List ℕ → List ℕ → Instance
new_instance f v name altitude =
    record { filter = f; volume = v; name = name; altitude = altitude; birth = 0; phase = phase.Setup; start = mark.NotMade }

abbrev pub attached : StackWorld → FilterId → VolumeId → List ℕ → List ℕ → StackWorld
attached s f v name altitude = record s { instances = s.instances ++ new_instance f v name altitude ∷ [] }

unfoldable pub Attaches : StackWorld → FilterId → VolumeId → List ℕ → List ℕ → Result InstanceId Status → StackWorld → Type 0
Attaches old f v name altitude result new =
    AnswersOrMemory (first_of (attach_refusals old f v name altitude)) result old new
    (λ (i : InstanceId). (i.0 ≡ length old.instances) × (new ≡ attached old f v name altitude))

-- the end of a setup callback

-- whether the filter and the volume of the instance still take it
abbrev pub is_wanted : StackWorld → Option Instance → Bool
is_wanted s None = false
is_wanted s (Some row) = is_loaded (slice_get s.filters row.filter.0) && is_mounted (slice_get s.volumes row.volume.0)

-- whether the instance is there and in its setup callback
abbrev pub is_setup_at : Option Instance → Bool
is_setup_at None = false
is_setup_at (Some row) = is_setup row.phase

abbrev pub setup_refusals : StackWorld → InstanceId → Bool → List (Bool × Status)
setup_refusals s i accept =
    (not accept, status.DoNotAttach) ∷ (not (is_wanted s (slice_get s.instances i.0)), status.DeletingObject) ∷ []

-- the instance becomes attached, as the next that was born
abbrev pub accept_row : ℕ → Instance → Instance
accept_row births row = record row { phase = phase.Attached; birth = births }

-- the instance leaves again
abbrev pub refuse_row : Instance → Instance
refuse_row row = record row { phase = phase.Emptying }

abbrev pub accepted : StackWorld → InstanceId → StackWorld
accepted s i =
    record s {
      instances = updated (accept_row s.births) s.instances i.0;
      births = s.births + 1;
    }

abbrev pub refused : StackWorld → InstanceId → StackWorld
refused s i = record s { instances = updated refuse_row s.instances i.0 }

unfoldable pub SetsUp : StackWorld → InstanceId → Bool → Result (Unit {0}) Status → StackWorld → Type 0
SetsUp old i accept result new =
    AnswersWith (first_of (setup_refusals old i accept)) result (λ _. new ≡ accepted old i) (λ _. new ≡ refused old i)

-- the end of an instance

abbrev pub is_emptying_at : Option Instance → Bool
is_emptying_at None = false
is_emptying_at (Some row) = is_emptying row.phase

-- its name and altitude are free again
abbrev pub finish_row : Instance → Instance
finish_row row = record row { phase = phase.Detached }

abbrev pub finished : StackWorld → InstanceId → StackWorld
finished s i = record s { instances = updated finish_row s.instances i.0 }
