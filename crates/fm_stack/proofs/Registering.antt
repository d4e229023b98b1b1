-- Registering a filter and mounting a volume keep what holds of the stack, and change nothing for operations under way.
use Rattle.fm_stack.proofs.Words.{leb-false, length_push, VolumeId, Operation, first_of, none_refuses, all_at, all_from_slice_get}
use Rattle.fm_stack.proofs.Words.{slice_get-append_left, Instance, StackWorld, mount_refusals, mounted, new_filter, new_volume}
use Rattle.fm_stack.proofs.Words.{register_refusals, registered, Follows, is_to_visit, IsPlaced, IsStack}
use Rattle.std.proofs.Common.{◌≡◌, ℕ, ◌<◌, ◌≤◌, List, [], ◌∷◌, ◌++◌, length, None, refl, arith}
use Rattle.fm_types.specs.declared.registration.Registration.{Registration}
use Rattle.fm_stack.specs.declared.filter.Filter.{Filter}
use Rattle.fm_stack.specs.declared.volume.Volume.{Volume}

-- filters and volumes behind those that there are
more_keeps : (s : StackWorld) (filters : List Filter) (volumes : List Volume) → IsStack s → length s.filters ≤ length filters → length filters ≤ 16
    → length s.volumes ≤ length volumes → length volumes ≤ 8 → IsStack (record s { filters = filters; volumes = volumes })
more_keeps s filters volumes sound more few more_volumes few_volumes = record {
  filters = few;
  volumes = few_volumes;
  instances = sound.instances;
  placed = all_from_slice_get (IsPlaced (record s { filters = filters; volumes = volumes })) s.instances (λ k x there.
      let placed = all_at (IsPlaced s) s.instances k x sound.placed there in
      let filter = placed.filter in let volume = placed.volume in
      record { filter = omega (arith, filter, more); volume = omega (arith, volume, more_volumes) });
  apart = sound.apart;
  few = sound.few;
  born = sound.born;
}

pub registered_keeps : (s : StackWorld) (name : List ℕ) (r : Registration) → IsStack s → first_of (register_refusals s name) ≡ None
    → IsStack (registered s name r)
registered_keeps s name r sound none =
    let longer = length_push s.filters (new_filter name r) in
    let few : length s.filters < 16 = leb-false 16 (length s.filters) (none_refuses (register_refusals s name) none).1.0 in
    more_keeps s (registered s name r).filters s.volumes sound (omega (arith, longer)) (omega (arith, longer, few)) (omega arith) sound.volumes

pub mounted_keeps : (s : StackWorld) (name : List ℕ) → IsStack s → first_of (mount_refusals s name) ≡ None → IsStack (mounted s name)
mounted_keeps s name sound none =
    let longer = length_push s.volumes (new_volume name) in
    let few : length s.volumes < 8 = leb-false 8 (length s.volumes) (none_refuses (mount_refusals s name) none).1.0 in
    more_keeps s s.filters (mounted s name).volumes sound (omega arith) sound.filters (omega (arith, longer)) (omega (arith, longer, few))

-- the instances that there are don't belong to a filter that is registered later
same_visits : (s : StackWorld) (filter : Filter) (v : VolumeId) (born : ℕ) (operation : Operation) (row : Instance) → row.filter.0 < length s.filters
    → is_to_visit (record s { filters = s.filters ++ filter ∷ [] }) v born operation row ≡ is_to_visit s v born operation row
same_visits s filter v born operation row within = rw (slice_get-append_left s.filters (filter ∷ []) row.filter.0 within) refl

pub registered_follows : (s : StackWorld) (name : List ℕ) (r : Registration) → IsStack s → Follows s (registered s name r)
registered_follows s name r sound = record {
  births = omega arith;
  longer = omega arith;
  altitudes = λ i row there. (row, there, refl);
  visits = λ v born operation i row early there visited. (
    row,
    there,
    rw (← same_visits s (new_filter name r) v born operation row
        (all_at (IsPlaced s) s.instances i row sound.placed there).filter) visited,
    refl,
  );
}

pub mounted_follows : (s : StackWorld) (name : List ℕ) → IsStack s → Follows s (mounted s name)
mounted_follows s name sound = record {
  births = omega arith;
  longer = omega arith;
  altitudes = λ i row there. (row, there, refl);
  visits = λ v born operation i row early there visited. (row, there, visited, refl);
}
