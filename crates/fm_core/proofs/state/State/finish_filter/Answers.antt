use Rattle.fm_core.proofs.Words.{refl, subst, sym, IsSound}
use Rattle.fm_world.proofs.Unloading.{finish_filter_does}
use Rattle.fm_world.proofs.Words.{FinishesFilter}
use Rattle.fm_core.proofs.state.State.finish_filter.Goals as goal

pub returns-clause-event : goal.returns-clause-event
unfolding FinishesFilter
returns-clause-event c = rw (sym c.self.view_is, sym c.open_of-open.ensures) (c.finish_filter.ensures.event, refl)

pub invariant_of-self : goal.invariant_of-self
invariant_of-self c =
    record {
      sound = (finish_filter_does _ _ _ _ (returns-clause-event c)).sound (subst IsSound c.self.view_is c.self.invariant.sound);
      tied = c.self.invariant.tied;
    }
