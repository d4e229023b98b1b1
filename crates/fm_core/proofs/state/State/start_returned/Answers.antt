use Rattle.fm_core.proofs.Words.{start_of, the_view, leaves_alike, Place, Some, refl, subst, sym, ◌≡◌, IsSound, worker_at, slice_get_within}
use Rattle.fm_world.proofs.Words.{StartReturns}
use Rattle.fm_world.proofs.Detaching.{start_place, start_returned_does}
use Rattle.fm_core.proofs.Operated.{placed, within_at}
use Rattle.fm_core.proofs.Torn.{left_tied, start_is}
use Rattle.fm_core.proofs.state.State.start_returned.Goals.{In-Some}
use Rattle.fm_core.proofs.state.State.start_returned.Goals as goal

at : (c : In-Some) → worker_at (the_view c.self.inside).workers c.args.worker ≡ Some (Place.Start c.in-Some.instance)
at c = placed start_of Place.Start c.args.worker c.in-Some.instance c.place.result c.start_of.result start_is c.self.view_is
    c.place.ensures c.start_of.ensures c.in-Some.is

pub leave-requires : goal.leave-requires
leave-requires c = within_at c.args.worker _ c.self.invariant (at (goal.at.leave-requires c).In-Some)

pub start_returned-requires : goal.start_returned-requires
start_returned-requires c =
    let row = start_place (the_view c.self.inside) c.args.worker c.in-Some.instance c.self.invariant.sound.under_way
    (at (goal.at.start_returned-requires c).In-Some) in
    slice_get_within c.self.inside.stack.instances c.in-Some.instance.0 row.0 row.1

pub returns-clause-event : goal.returns-clause-event
unfolding StartReturns
returns-clause-event c =
    rw (sym c.self.view_is, at (goal.at.returns-clause-event c).In-Some, c.put.ensures, c.start_returned.ensures.event)
    (refl, leaves_alike c.self.invariant.tied c.leave.ensures.table, refl)

pub invariant_of-self : goal.invariant_of-self
invariant_of-self c = record {
  sound = (start_returned_does _ _ _ _ (returns-clause-event c)).0.sound (subst IsSound c.self.view_is c.self.invariant.sound);
  tied = left_tied c.self.inside.contexts c.leave.new.self c.args.worker.0 c.self.inside.flow c.leave.ensures.table
      c.leave.ensures.carried c.self.invariant.tied;
}

pub returns-clause-held : goal.returns-clause-held
returns-clause-held c = (start_returned_does _ _ _ _ (returns-clause-event c)).1
