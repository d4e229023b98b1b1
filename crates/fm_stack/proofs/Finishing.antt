-- The end of an instance keeps what holds of the stack: its name and altitude are free, and nothing visits it.
use Rattle.fm_stack.proofs.Words.{false≢true, InstanceId, Instance, StackWorld, is_emptying_at, finish_row, finished, Follows, is_emptying}
use Rattle.fm_stack.proofs.Words.{IsStack}
use Rattle.std.proofs.Common.{◌≡◌, true, slice_get, Option, None, Some, refl, arith, inl}
use Rattle.fm_stack.proofs.Alike.{row_changes, row_follows}

pub finished_keeps : (s : StackWorld) (i : InstanceId) → IsStack s → (row : Instance) → slice_get s.instances i.0 ≡ Some row
    → is_emptying row.phase ≡ true → IsStack (finished s i)
finished_keeps s i sound row there emptying =
    row_changes s finish_row i.0 s.births row sound there (record { filter = refl; volume = refl; name = refl; altitude = refl; live = inl refl }) (omega arith)

pub finished_follows : (s : StackWorld) (i : InstanceId) → Follows s (finished s i)
finished_follows s i = row_follows s finish_row i.0 s.births (λ x. refl) (omega arith) (λ v born operation x early visited. false≢true visited)

-- the instance that a test finds
pub emptying_row : (o : Option Instance) → is_emptying_at o ≡ true → (row : Instance) × (o ≡ Some row) × (is_emptying row.phase ≡ true)
emptying_row None emptying = cc
emptying_row (Some row) emptying = (row, refl, emptying)
