use Rattle.fm_core.proofs.Words.{setup_of, the_view, leaves_alike, Place, Some, refl, subst, sym, ◌≡◌, IsSound, worker_at, slice_get}
use Rattle.fm_world.proofs.Words.{SetsUp}
use Rattle.fm_world.proofs.Keeps.{setup_place}
use Rattle.fm_world.proofs.Owning.{setup_does}
use Rattle.fm_core.proofs.Torn.{setup_is, setup_at, emptied, left_tied, unless_tied}
use Rattle.fm_core.proofs.Operated.{placed, within_at}
use Rattle.fm_core.proofs.state.State.setup_done.Goals.{In-Some}
use Rattle.fm_core.proofs.state.State.setup_done.Goals as goal

at : (c : In-Some) → worker_at (the_view c.self.inside).workers c.args.worker ≡ Some (Place.Setup c.in-Some.instance)
at c =
    placed setup_of Place.Setup c.args.worker c.in-Some.instance c.place.result c.setup_of.result setup_is c.self.view_is c.place.ensures c.setup_of.ensures
    c.in-Some.is

pub leave-requires : goal.leave-requires
leave-requires c = within_at c.args.worker _ c.self.invariant (at (goal.at.leave-requires c).In-Some)

pub setup_done-result-requires : goal.setup_done-result-requires
setup_done-result-requires c =
    setup_at (slice_get c.self.inside.stack.instances c.in-Some.instance.0)
    (setup_place (the_view c.self.inside) c.args.worker c.in-Some.instance c.self.invariant.sound.under_way (at (goal.at.setup_done-result-requires c).In-Some))

pub returns-clause-event : goal.returns-clause-event
unfolding SetsUp
returns-clause-event c =
    let tied = left_tied c.self.inside.contexts c.leave.new.self c.args.worker.0 c.self.inside.flow c.leave.ensures.table
    c.leave.ensures.carried c.self.invariant.tied in
    rw (sym c.self.view_is, at (goal.at.returns-clause-event c).In-Some, c.put.ensures) (
      c.setup_done-result.ensures.event,
      c.leave.new.self.table,
      leaves_alike c.self.invariant.tied c.leave.ensures.table,
      emptied (the_view c.self.inside) c.in-Some.instance c.setup_done-result.result c.leave.new.self c.unlink_unless.new.contexts c.unlink_unless.ensures tied,
      refl,
    )

pub invariant_of-self : goal.invariant_of-self
invariant_of-self c = record {
  sound = (setup_does _ _ _ _ _ (returns-clause-event c)).0.sound (subst IsSound c.self.view_is c.self.invariant.sound);
  tied = unless_tied c.in-Some.instance c.setup_done-result.result c.leave.new.self c.unlink_unless.new.contexts c.self.inside.flow c.unlink_unless.ensures
      (left_tied c.self.inside.contexts c.leave.new.self c.args.worker.0 c.self.inside.flow c.leave.ensures.table
      c.leave.ensures.carried c.self.invariant.tied);
}

pub returns-clause-held : goal.returns-clause-held
returns-clause-held c = (setup_does _ _ _ _ _ (returns-clause-event c)).1
