use Rattle.fm_core.proofs.Words.{the_view, refl, subst, sym, is_linked_of, Owner, IsSound}
use Rattle.fm_world.proofs.Words.{EmptiesFilter}
use Rattle.fm_world.proofs.Unloading.{empty_filter_does}
use Rattle.fm_core.proofs.Torn.{where_tied, where_swept}
use Rattle.fm_core.proofs.state.State.empty_filter.Goals as goal

pub returns-clause-event : goal.returns-clause-event
unfolding EmptiesFilter
returns-clause-event c =
    let swept = where_swept (the_view c.self.inside) _ _ c.self.inside.contexts c.unlink_where.new.contexts refl c.self.invariant.tied c.unlink_where.ensures in
    rw (sym c.self.view_is, sym c.is_asked_to_unload-is_asked.ensures) (c.empty_filter-result.ensures.event, swept, refl)

pub invariant_of-self : goal.invariant_of-self
invariant_of-self c = record {
  sound = (empty_filter_does _ _ _ _ (returns-clause-event c)).0.sound (subst IsSound c.self.view_is c.self.invariant.sound);
  tied = where_tied (is_linked_of (Owner.Filter c.args.filter)) c.empty_filter-result.result c.self.inside.contexts
      c.unlink_where.new.contexts c.self.inside.flow c.unlink_where.ensures c.self.invariant.tied;
}

pub returns-clause-hand : goal.returns-clause-hand
returns-clause-hand c = (empty_filter_does _ _ _ _ (returns-clause-event c)).1
