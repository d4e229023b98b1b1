-- The events that dismount a volume keep what holds of the stack, and change nothing for operations under way but that fewer are to be visited.
use Rattle.fm_stack.proofs.Words.{Follows, Instance, IsKept, Seat, StackWorld, VolumeId, length-updated}
use Rattle.fm_stack.proofs.GoingOn.{RowsGoOn, StackGoesOn, all_go_on, goes_both, rows_stay}
use Rattle.fm_stack.proofs.Unloads.{stop_where_goes_on}
use Rattle.fm_stack.specs.Dismounting.{dismounted, dismounting, emptied_in, is_on, volume_emptied, volume_in}
use Rattle.fm_stack.specs.Unloading.{stop_where}
use Rattle.fm_stack.specs.declared.volume.Volume.{Volume}
use Rattle.fm_stack.specs.declared.volume.VolumePhase.TheVariants as volume_phase
use Rattle.fm_types.specs.Lists.{updated}
use Rattle.std.proofs.Common.{◌≡◌, ℕ, List, refl}

-- a volume goes on, and perhaps instances with it
volume_goes_on : (s : StackWorld) (change : Volume → Volume) (at : ℕ) (others : List Instance) → RowsGoOn s.instances others
    → StackGoesOn s (record s { volumes = updated change s.volumes at; instances = others })
volume_goes_on s change at others on = record {
  births = refl;
  rows = on;
  filters = refl;
  registered = λ f. refl;
  volumes = length-updated change s.volumes at;
}

pub dismounting_goes_on : (s : StackWorld) (v : VolumeId) → StackGoesOn s (dismounting s v)
dismounting_goes_on s v =
    volume_goes_on s (volume_in volume_phase.Dismounting) v.0 (dismounting s v).instances
    (all_go_on (stop_where (is_on v)) s.instances (stop_where_goes_on (is_on v)))

pub volume_emptied_goes_on : (s : StackWorld) (v : VolumeId) → StackGoesOn s (volume_emptied s v)
volume_emptied_goes_on s v = volume_goes_on s emptied_in v.0 s.instances (rows_stay s.instances)

pub dismounted_goes_on : (s : StackWorld) (v : VolumeId) → StackGoesOn s (dismounted s v)
dismounted_goes_on s v = volume_goes_on s (volume_in volume_phase.Finished) v.0 s.instances (rows_stay s.instances)

-- ---- of a stack under its other name ----

pub dismounts : {kept now : StackWorld} (orders : List (List Seat)) (v : VolumeId) → IsKept kept orders → kept ≡ now
    → IsKept (dismounting kept v) orders × Follows now (dismounting kept v)
dismounts {kept} orders v sound same = goes_both (dismounting kept v) orders sound same (dismounting_goes_on kept v)

pub volume_empties : {kept now : StackWorld} (orders : List (List Seat)) (v : VolumeId) → IsKept kept orders → kept ≡ now
    → IsKept (volume_emptied kept v) orders × Follows now (volume_emptied kept v)
volume_empties {kept} orders v sound same = goes_both (volume_emptied kept v) orders sound same (volume_emptied_goes_on kept v)

pub volume_ends : {kept now : StackWorld} (orders : List (List Seat)) (v : VolumeId) → IsKept kept orders → kept ≡ now
    → IsKept (dismounted kept v) orders × Follows now (dismounted kept v)
volume_ends {kept} orders v sound same = goes_both (dismounted kept v) orders sound same (dismounted_goes_on kept v)
