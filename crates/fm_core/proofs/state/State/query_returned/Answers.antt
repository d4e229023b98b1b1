use Rattle.fm_core.proofs.Words.{query_of, the_view, leaves_alike, Place, Some, refl, subst, sym, ◌≡◌, IsSound, worker_at}
use Rattle.fm_world.proofs.Words.{QueryReturns}
use Rattle.fm_world.proofs.Detaching.{query_does}
use Rattle.fm_core.proofs.Operated.{placed, within_at}
use Rattle.fm_core.proofs.Torn.{left_tied, query_is}
use Rattle.fm_core.proofs.state.State.query_returned.Goals.{In-Some}
use Rattle.fm_core.proofs.state.State.query_returned.Goals as goal

at : (c : In-Some) → worker_at (the_view c.self.inside).workers c.args.worker ≡ Some (Place.Query c.in-Some.instance)
at c = placed query_of Place.Query c.args.worker c.in-Some.instance c.place.result c.query_of.result query_is c.self.view_is
    c.place.ensures c.query_of.ensures c.in-Some.is

pub leave-requires : goal.leave-requires
leave-requires c = within_at c.args.worker _ c.self.invariant (at (goal.at.leave-requires c).In-Some)

pub returns-clause-event : goal.returns-clause-event
unfolding QueryReturns
returns-clause-event c =
    rw (sym c.self.view_is, at (goal.at.returns-clause-event c).In-Some, c.put.ensures)
    (c.query_returned.ensures.event, leaves_alike c.self.invariant.tied c.leave.ensures.table, refl)

pub invariant_of-self : goal.invariant_of-self
invariant_of-self c = record {
  sound = (query_does _ _ _ _ _ (returns-clause-event c)).0.sound (subst IsSound c.self.view_is c.self.invariant.sound);
  tied = left_tied c.self.inside.contexts c.leave.new.self c.args.worker.0 c.self.inside.flow c.leave.ensures.table
      c.leave.ensures.carried c.self.invariant.tied;
}

pub returns-clause-held : goal.returns-clause-held
returns-clause-held c = (query_does _ _ _ _ _ (returns-clause-event c)).1
