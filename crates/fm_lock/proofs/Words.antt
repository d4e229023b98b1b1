-- The words that the proofs share.
pub use Rattle.fm_lock.specs.Hired.{are_hired}
pub use Rattle.fm_lock.specs.Views.{HandView}
pub use Rattle.fm_types.specs.declared.ids.WorkerId.{WorkerId}
pub use Rattle.fm_world.proofs.Events.{idle_there}
pub use Rattle.fm_world.proofs.Owning.{empty_hand}
pub use Rattle.fm_world.specs.Hands.{hand_len}
pub use Rattle.fm_world.specs.Sound.{IsSound}
pub use Rattle.fm_world.specs.Workers.{is_idle, worker_at}
pub use Rattle.fm_world.specs.World.{World}
pub use Rattle.fm_world.specs.declared.place.Place.{Place}
pub use Rattle.std.proofs.Common.{Bool, List, [], ap, arith, cond, count_by, false, length, not, refl, slice_set, suc, true, zero, ℕ, ◌+◌, ◌<◌, ◌∷◌, ◌≡◌, ◌&&◌}
pub use Rattle.std.proofs.lemmas.Bool.{and_parts, false≢true}
pub use Rattle.std.proofs.lemmas.List.Sums.{sum_by-cons, sum_by-set}
pub use Rattle.std.specs.List.{list_all}
pub use Rattle.std.specs.Prelude.{slice_index_or}
