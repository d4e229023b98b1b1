-- How a volume is dismounted: its instances are stopped, and once they are detached it is emptied and finished. How many operations, handles and contexts
-- are left on it, the caller says.
use Rattle.std.specs.Prelude.{◌≡◌, ℕ, ◌+◌, List, [], ◌∷◌, ◌++◌, Bool, true, false, not, ◌==◌, nat_le, nat_lt, length, map, slice_get, Option, Some, None, Result, count_by}
use Rattle.fm_types.specs.declared.ids.VolumeId.{VolumeId}
use Rattle.fm_types.specs.declared.status.Status.{Status}
use Rattle.fm_types.specs.declared.status.Status.TheVariants as status
use Rattle.fm_types.specs.Refusals.{first_of, Answers}
use Rattle.fm_types.specs.Lists.{updated}
use Rattle.fm_stack.specs.declared.volume.Volume.{Volume}
use Rattle.fm_stack.specs.declared.volume.VolumePhase.{VolumePhase}
use Rattle.fm_stack.specs.declared.volume.VolumePhase.TheVariants as volume_phase
use Rattle.fm_stack.specs.declared.instance.Instance.{Instance}
use Rattle.fm_stack.specs.StackWorld.{StackWorld}
use Rattle.fm_stack.specs.Instances.{is_live_on}
use Rattle.fm_stack.specs.Events.{is_mounted}
use Rattle.fm_stack.specs.Unloading.{stop_where}

-- ---- rows ----

abbrev pub volume_in : VolumePhase → Volume → Volume
volume_in p volume = record volume { phase = p }

abbrev pub is_on : VolumeId → Instance → Bool
is_on v row = row.volume.0 == v.0

-- how far its dismount has come once it is emptied: one that has ended stays so
abbrev pub emptied_phase : VolumePhase → VolumePhase
emptied_phase volume_phase.Finished = volume_phase.Finished
emptied_phase _ = volume_phase.Emptied

abbrev pub emptied_in : Volume → Volume
emptied_in volume = record volume { phase = emptied_phase volume.phase }

abbrev pub is_volume_emptied_phase : VolumePhase → Bool
is_volume_emptied_phase volume_phase.Emptied = true
is_volume_emptied_phase _ = false

abbrev pub is_volume_emptied : Option Volume → Bool
is_volume_emptied None = false
is_volume_emptied (Some volume) = is_volume_emptied_phase volume.phase

-- ---- its start ----

-- Busy says how many operations of the volume aren't collected
abbrev pub dismount_refusals : StackWorld → VolumeId → ℕ → List (Bool × Status)
dismount_refusals s v uncollected =
    (nat_le (length s.volumes) v.0, status.NoVolume)
    ∷ (not (is_mounted (slice_get s.volumes v.0)), status.Dismounting)
    ∷ (nat_lt 0 uncollected, status.Busy uncollected)
    ∷ []

-- the volume is being dismounted, and its attached instances are stopped
abbrev pub dismounting : StackWorld → VolumeId → StackWorld
dismounting s v =
    record s {
      volumes = updated (volume_in volume_phase.Dismounting) s.volumes v.0;
      instances = map (stop_where (is_on v)) s.instances;
    }

unfoldable pub StartsDismount : StackWorld → VolumeId → ℕ → Result (Unit {0}) Status → StackWorld → Type 0
StartsDismount old v uncollected result new =
    Answers (first_of (dismount_refusals old v uncollected)) result old new (λ _. new ≡ dismounting old v)

-- ---- its end ----

-- a volume that isn't there, or of which no dismount has begun
abbrev pub unless_dismounting : StackWorld → VolumeId → List (Bool × Status)
unless_dismounting s v =
    (nat_le (length s.volumes) v.0, status.NoVolume)
    ∷ (is_mounted (slice_get s.volumes v.0), status.WrongStep)
    ∷ []

-- the open handles on the volume, and its instances that aren't detached
abbrev pub left_on : StackWorld → VolumeId → ℕ → ℕ
left_on s v handles = handles + count_by (is_live_on v) s.instances

abbrev pub empty_volume_refusals : StackWorld → VolumeId → ℕ → List (Bool × Status)
empty_volume_refusals s v handles = unless_dismounting s v ++ (nat_lt 0 (left_on s v handles), status.Busy (left_on s v handles)) ∷ []

abbrev pub volume_emptied : StackWorld → VolumeId → StackWorld
volume_emptied s v = record s { volumes = updated emptied_in s.volumes v.0 }

unfoldable pub EmptiesVolume : StackWorld → VolumeId → ℕ → Result (Unit {0}) Status → StackWorld → Type 0
EmptiesVolume old v handles result new = Answers (first_of (empty_volume_refusals old v handles)) result old new (λ _. new ≡ volume_emptied old v)

-- Busy says how many volume contexts that were allocated on it aren't cleaned
abbrev pub finish_volume_refusals : StackWorld → VolumeId → ℕ → List (Bool × Status)
finish_volume_refusals s v contexts =
    (nat_le (length s.volumes) v.0, status.NoVolume)
    ∷ (not (is_volume_emptied (slice_get s.volumes v.0)), status.WrongStep)
    ∷ (nat_lt 0 contexts, status.Busy contexts)
    ∷ []

abbrev pub dismounted : StackWorld → VolumeId → StackWorld
dismounted s v = record s { volumes = updated (volume_in volume_phase.Finished) s.volumes v.0 }

unfoldable pub FinishesVolume : StackWorld → VolumeId → ℕ → Result (Unit {0}) Status → StackWorld → Type 0
FinishesVolume old v contexts result new = Answers (first_of (finish_volume_refusals old v contexts)) result old new (λ _. new ≡ dismounted old v)
