-- How many instances an operation may visit.
use Rattle.fm_stack.proofs.Words.{and_parts, and_from, VolumeId, Operation, count_by_weaker, Instance, Phase, StackWorld, is_attached}
use Rattle.fm_stack.proofs.Words.{is_detached, is_live_on, is_registered, is_to_visit, IsStack}
use Rattle.std.proofs.Common.{◌≡◌, ℕ, ◌≤◌, true, ◌&&◌, ◌==◌, not, nat_lt, count_by, refl, arith}
use Rattle.fm_stack.specs.declared.instance.Phase.TheVariants as phase

-- what is attached isn't detached
attached_is_live : (p : Phase) → is_attached p ≡ true → not (is_detached p) ≡ true
attached_is_live phase.Detached attached = attached
attached_is_live p attached = refl

-- what is to be visited is live on the volume
pub visited_is_live : (s : StackWorld) (v : VolumeId) (born : ℕ) (operation : Operation) (row : Instance)
    → is_to_visit s v born operation row ≡ true → is_live_on v row ≡ true
visited_is_live s v born operation row visited =
    let rest = nat_lt row.birth born && is_registered s.filters row.filter operation in
    let parts = and_parts (is_attached row.phase) ((row.volume.0 == v.0) && rest) visited in
    let here = and_parts (row.volume.0 == v.0) rest parts.1 in
    and_from (row.volume.0 == v.0) (not (is_detached row.phase)) here.0 (attached_is_live row.phase parts.0)

-- at most 32 instances are to be visited
pub is_to_visit_few : (s : StackWorld) → IsStack s → (v : VolumeId) (born : ℕ) (operation : Operation)
    → count_by (is_to_visit s v born operation) s.instances ≤ 32
is_to_visit_few s sound v born operation =
    let few = sound.few v in
    let fewer : count_by (is_to_visit s v born operation) s.instances ≤ count_by (is_live_on v) s.instances =
    count_by_weaker (is_to_visit s v born operation) (is_live_on v) s.instances (λ k row there. visited_is_live s v born operation row) in
    omega (arith, few, fewer)
