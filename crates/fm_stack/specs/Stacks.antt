-- What holds of the filters, volumes and instances at every moment.
use Rattle.std.specs.Prelude.{◌≡◌, ◌+◌, ◌≤◌, ◌<◌, false, length, All, AllPairs, count_by}
use Rattle.fm_types.specs.declared.ids.VolumeId.{VolumeId}
use Rattle.fm_stack.specs.declared.instance.Instance.{Instance}
use Rattle.fm_stack.specs.StackWorld.{StackWorld}
use Rattle.fm_stack.specs.Instances.{clashes, is_live_on, is_setup}

-- an instance names a filter and a volume that are there
pub record IsPlaced (s : StackWorld) (row : Instance) : Type 0 where
  pub filter : row.filter.0 < length s.filters
  pub volume : row.volume.0 < length s.volumes

pub record IsStack (s : StackWorld) : Type 0 where
  pub filters : length s.filters ≤ 16
  pub volumes : length s.volumes ≤ 8
  pub instances : length s.instances ≤ 4096
  pub placed : All (IsPlaced s) s.instances
  -- on one volume, instances that aren't detached have distinct names and altitudes
  pub apart : AllPairs (λ a b. clashes a b ≡ false) s.instances
  pub few : (v : VolumeId) → count_by (is_live_on v) s.instances ≤ 32
  -- each instance became attached once at most
  pub born : s.births + count_by (λ (row : Instance). is_setup row.phase) s.instances ≤ length s.instances
