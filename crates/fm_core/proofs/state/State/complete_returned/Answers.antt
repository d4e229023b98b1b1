use Rattle.fm_core.proofs.Words.{complete_of, the_view, leaves_alike, sweeps_alike, Place, Some, ap, refl, subst, sym, ◌∙◌, ◌≡◌, IsSound, worker_at}
use Rattle.fm_world.proofs.Words.{CompleteReturns}
use Rattle.fm_stack.specs.Detaching.{is_in_complete}
use Rattle.fm_stack.specs.Instances.{passes}
use Rattle.fm_world.proofs.Detaching.{complete_place, complete_returned_does}
use Rattle.fm_core.proofs.Operated.{placed, within_at}
use Rattle.fm_core.proofs.Torn.{complete_is, swept_tied, left_tied}
use Rattle.fm_core.proofs.state.State.complete_returned.Goals.{In-Some}
use Rattle.fm_core.proofs.state.State.complete_returned.Goals as goal

at : (c : In-Some) → worker_at (the_view c.self.inside).workers c.args.worker ≡ Some (Place.Complete c.in-Some.instance)
at c = placed complete_of Place.Complete c.args.worker c.in-Some.instance c.place.result c.complete_of.result complete_is
    c.self.view_is c.place.ensures c.complete_of.ensures c.in-Some.is

pub leave-requires : goal.leave-requires
leave-requires c = within_at c.args.worker _ c.self.invariant (at (goal.at.leave-requires c).In-Some)

pub complete_returned-requires : goal.complete_returned-requires
complete_returned-requires c =
    let row = complete_place (the_view c.self.inside) c.args.worker c.in-Some.instance c.self.invariant.sound.under_way
    (at (goal.at.complete_returned-requires c).In-Some) in
    ap (passes is_in_complete) row.1 ∙ row.2

pub returns-clause-event : goal.returns-clause-event
unfolding CompleteReturns
returns-clause-event c =
    let tied = left_tied c.self.inside.contexts c.leave.new.self c.args.worker.0 c.self.inside.flow c.leave.ensures.table
    c.leave.ensures.carried c.self.invariant.tied in
    rw (sym c.self.view_is, at (goal.at.returns-clause-event c).In-Some, c.put.ensures, c.complete_returned.ensures.event)
    (refl, c.leave.new.self.table, leaves_alike c.self.invariant.tied c.leave.ensures.table, sweeps_alike tied c.unlink_owner.ensures.table, refl)

pub invariant_of-self : goal.invariant_of-self
invariant_of-self c = record {
  sound = (complete_returned_does _ _ _ _ (returns-clause-event c)).0.sound (subst IsSound c.self.view_is c.self.invariant.sound);
  tied = swept_tied c.self.inside.contexts c.leave.new.self c.unlink_owner.new.self c.in-Some.instance c.args.worker.0
      c.self.inside.flow c.leave.ensures.table c.leave.ensures.carried
      c.unlink_owner.ensures.table c.unlink_owner.ensures.carried c.self.invariant.tied;
}

pub returns-clause-held : goal.returns-clause-held
returns-clause-held c = (complete_returned_does _ _ _ _ (returns-clause-event c)).1
