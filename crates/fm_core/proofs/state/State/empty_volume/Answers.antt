use Rattle.fm_core.proofs.Words.{IsState, the_view, ContextsKept, is_linked_to, arith, refl, subst, sym, ℕ, ◌<◌, ◌^◌, ◌≡◌, count_by-le-length, Object, VolumeId}
use Rattle.fm_core.proofs.Words.{IsSound, World}
use Rattle.fm_world.proofs.Words.{EmptiesVolume, is_handle_on}
use Rattle.fm_world.proofs.Dismounting.{empty_volume_does}
use Rattle.fm_core.proofs.Torn.{where_tied, where_swept}
use Rattle.fm_world.specs.Dismounts.{handles_on}
use Rattle.fm_core.proofs.state.State.empty_volume.Goals as goal

-- handles are few
few : {old : World} {kept : ContextsKept} (v : VolumeId) (n : ℕ) → IsState old kept → n ≡ handles_on v old.files → n < 2 ^ 63
few {old} v n state is = omega (arith, is, count_by-le-length (is_handle_on v old.files) old.files.handles, state.sound.filed.room.few)

pub empty_volume-result-requires : goal.empty_volume-result-requires
empty_volume-result-requires c = few c.args.volume c.handles_on-handles.result c.self.invariant c.handles_on-handles.ensures

pub returns-clause-event : goal.returns-clause-event
unfolding EmptiesVolume
returns-clause-event c =
    let swept = where_swept (the_view c.self.inside) _ _ c.self.inside.contexts c.unlink_where.new.contexts refl c.self.invariant.tied c.unlink_where.ensures in
    rw (sym c.self.view_is, sym c.handles_on-handles.ensures) (c.empty_volume-result.ensures.event, swept, refl)

pub invariant_of-self : goal.invariant_of-self
invariant_of-self c = record {
  sound = (empty_volume_does _ _ _ _ (returns-clause-event c)).0.sound (subst IsSound c.self.view_is c.self.invariant.sound);
  tied = where_tied (is_linked_to (Object.Volume c.args.volume)) c.empty_volume-result.result c.self.inside.contexts
      c.unlink_where.new.contexts c.self.inside.flow c.unlink_where.ensures
      c.self.invariant.tied;
}

pub returns-clause-hand : goal.returns-clause-hand
returns-clause-hand c = (empty_volume_does _ _ _ _ (returns-clause-event c)).1
