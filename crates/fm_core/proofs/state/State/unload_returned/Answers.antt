use Rattle.fm_core.proofs.Words.{unload_of, the_view, Place, Some, refl, subst, sym, ◌≡◌, IsSound, worker_at}
use Rattle.fm_world.proofs.Words.{UnloadReturns}
use Rattle.fm_world.proofs.Unloading.{unload_does}
use Rattle.fm_core.proofs.Operated.{placed}
use Rattle.fm_core.proofs.Torn.{unload_is}
use Rattle.fm_core.proofs.state.State.unload_returned.Goals.{In-Some}
use Rattle.fm_core.proofs.state.State.unload_returned.Goals as goal

at : (c : In-Some) → worker_at (the_view c.self.inside).workers c.args.worker ≡ Some (Place.Unload c.in-Some.filter)
at c = placed unload_of Place.Unload c.args.worker c.in-Some.filter c.place.result c.unload_of.result unload_is c.self.view_is
    c.place.ensures c.unload_of.ensures c.in-Some.is

pub returns-clause-event : goal.returns-clause-event
unfolding UnloadReturns
returns-clause-event c =
    rw (sym c.self.view_is, at (goal.at.returns-clause-event c).In-Some, c.put.ensures) (c.unload_returned.ensures.event, refl)

pub invariant_of-self : goal.invariant_of-self
invariant_of-self c =
    record {
      sound = (unload_does _ _ _ _ _ (returns-clause-event c)).sound (subst IsSound c.self.view_is c.self.invariant.sound);
      tied = c.self.invariant.tied;
    }
