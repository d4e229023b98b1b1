-- What every event of this layer leaves to the operations that are under way.
use Rattle.std.specs.Prelude.{◌≡◌, ℕ, ◌≤◌, true, Some, slice_get, length}
use Rattle.fm_types.specs.declared.ids.VolumeId.{VolumeId}
use Rattle.fm_types.specs.declared.operation.Operation.{Operation}
use Rattle.fm_stack.specs.declared.instance.Instance.{Instance}
use Rattle.fm_stack.specs.StackWorld.{StackWorld}
use Rattle.fm_stack.specs.Next.{is_to_visit}

-- instances keep their numbers and altitudes, and what an operation that had begun is to visit now, it was to visit before
pub record Follows (old new : StackWorld) : Type 0 where
  pub births : old.births ≤ new.births
  pub longer : length old.instances ≤ length new.instances
  pub altitudes : (i : ℕ) (row : Instance) → slice_get old.instances i ≡ Some row
      → (after : Instance) × (slice_get new.instances i ≡ Some after) × (after.altitude ≡ row.altitude)
  pub visits : (v : VolumeId) (born : ℕ) (operation : Operation) (i : ℕ) (row : Instance) → born ≤ old.births
      → slice_get new.instances i ≡ Some row → is_to_visit new v born operation row ≡ true
      → (before : Instance) × (slice_get old.instances i ≡ Some before) × (is_to_visit old v born operation before ≡ true) × (before.altitude ≡ row.altitude)
