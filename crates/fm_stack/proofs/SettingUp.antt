-- The end of a setup callback keeps what holds of the stack. An instance that becomes attached is born behind all operations under way.
use Rattle.fm_stack.proofs.Words.{and_parts, ltb-true, InstanceId, VolumeId, Operation, Instance, Phase, StackWorld, accept_row, accepted}
use Rattle.fm_stack.proofs.Words.{is_setup_at, refuse_row, refused, Follows, is_detached, is_setup, is_registered, is_to_visit, IsStack}
use Rattle.std.proofs.Common.{◌≡◌, ◌∙◌, ◌+◌, ◌<◌, ◌≤◌, ◌&&◌, ◌==◌, ℕ, true, false, nat_lt, slice_get, Option, None, Some, refl, sym, ap, arith}
use Rattle.std.proofs.Common.{inr}
use Rattle.fm_stack.specs.declared.instance.Phase.TheVariants as phase
use Rattle.fm_stack.proofs.Alike.{IsAlike, one, row_changes, row_follows}

pub setup_is_live : (p : Phase) → is_setup p ≡ true → is_detached p ≡ false
setup_is_live phase.Setup in_setup = refl
setup_is_live p in_setup = cc

-- an instance in Setup is there, whatever comes next but its end
alike : (x y : Instance) → is_setup x.phase ≡ true → is_detached y.phase ≡ false → y ≡ record x { phase = y.phase; birth = y.birth } → IsAlike x y
alike x y in_setup live same = rw same (record {
  filter = refl;
  volume = refl;
  name = refl;
  altitude = refl;
  live =
      inr (live ∙ sym (setup_is_live x.phase in_setup));
})

pub accepted_keeps : (s : StackWorld) (i : InstanceId) → IsStack s → (row : Instance) → slice_get s.instances i.0 ≡ Some row
    → is_setup row.phase ≡ true → IsStack (accepted s i)
accepted_keeps s i sound row there in_setup =
    let was = ap one in_setup in
    row_changes s (accept_row s.births) i.0 (s.births + 1) row sound there (alike row (accept_row s.births row) in_setup refl refl) (omega (arith, was))

pub refused_keeps : (s : StackWorld) (i : InstanceId) → IsStack s → (row : Instance) → slice_get s.instances i.0 ≡ Some row
    → is_setup row.phase ≡ true → IsStack (refused s i)
refused_keeps s i sound row there in_setup =
    row_changes s refuse_row i.0 s.births row sound there (alike row (refuse_row row) in_setup refl refl) (omega arith)

-- an instance that was born now isn't visited by what began before
born_too_late : (s : StackWorld) (v : VolumeId) (born : ℕ) (operation : Operation) (row : Instance) → born ≤ s.births
    → is_to_visit s v born operation (accept_row s.births row) ≡ true → ⊥
born_too_late s v born operation row early visited =
    let here = and_parts (row.volume.0 == v.0) (nat_lt s.births born && is_registered s.filters row.filter operation) visited in
    let late = and_parts (nat_lt s.births born) (is_registered s.filters row.filter operation) here.1 in
    let wrong : s.births < born = ltb-true s.births born late.0 in
    omega (arith, wrong, early)

pub accepted_follows : (s : StackWorld) (i : InstanceId) → IsStack s → (row : Instance) → slice_get s.instances i.0 ≡ Some row
    → is_setup row.phase ≡ true → Follows s (accepted s i)
accepted_follows s i sound row there in_setup =
    row_follows s (accept_row s.births) i.0 (s.births + 1) (λ x. refl) (omega arith)
    (λ v born operation x early visited. born_too_late s v born operation x early visited)

pub refused_follows : (s : StackWorld) (i : InstanceId) → IsStack s → (row : Instance) → slice_get s.instances i.0 ≡ Some row
    → is_setup row.phase ≡ true → Follows s (refused s i)
refused_follows s i sound row there in_setup = row_follows s refuse_row i.0 s.births (λ x. refl) (omega arith) (λ v born operation x early visited. cc)

-- the instance that a test finds
pub setup_row : (o : Option Instance) → is_setup_at o ≡ true → (row : Instance) × (o ≡ Some row) × (is_setup row.phase ≡ true)
setup_row None in_setup = cc
setup_row (Some row) in_setup = (row, refl, in_setup)
