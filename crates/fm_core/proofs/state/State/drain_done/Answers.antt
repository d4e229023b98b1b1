use Rattle.fm_core.proofs.Words.{early_drain_of, the_view, leaves_alike, Place, Some, refl, subst, sym, ◌≡◌, IsSound, worker_at}
use Rattle.fm_world.proofs.Draining.{drain_done_does}
use Rattle.fm_core.proofs.Operated.{placed, within_at}
use Rattle.fm_core.proofs.Drained.{early_is, early_tied, runs_early}
use Rattle.fm_core.proofs.state.State.drain_done.Goals.{In-Some}
use Rattle.fm_world.specs.EarlyDrains.{DrainReturns}
use Rattle.fm_core.proofs.state.State.drain_done.Goals as goal

at : (c : In-Some) → worker_at (the_view c.self.inside).workers c.args.worker ≡ Some (Place.EarlyDrain c.in-Some.operation c.in-Some.instance)
at c =
    placed early_drain_of (λ p. Place.EarlyDrain p.0 p.1) c.args.worker (
      c.in-Some.operation,
      c.in-Some.instance,
    ) c.place.result c.early_drain_of.result early_is
    c.self.view_is c.place.ensures c.early_drain_of.ensures c.in-Some.is

pub leave-requires : goal.leave-requires
leave-requires c = within_at c.args.worker _ c.self.invariant (at (goal.at.leave-requires c).In-Some)

pub drain_done-requires : goal.drain_done-requires
drain_done-requires c = runs_early c.args.worker c.in-Some.operation c.in-Some.instance c.self.invariant (at (goal.at.drain_done-requires c).In-Some)

pub returns-clause-event : goal.returns-clause-event
unfolding DrainReturns
returns-clause-event c =
    rw (sym c.self.view_is, at (goal.at.returns-clause-event c).In-Some, c.put.ensures, c.drain_done.ensures)
    (refl, leaves_alike c.self.invariant.tied c.leave.ensures.table, refl)

pub invariant_of-self : goal.invariant_of-self
invariant_of-self c = record {
  sound = (drain_done_does _ _ _ _ (returns-clause-event c)).0.sound (subst IsSound c.self.view_is c.self.invariant.sound);
  tied = early_tied c.args.worker c.in-Some.operation c.in-Some.instance c.drain_done.new.self c.leave.new.self c.self.invariant
      (at (goal.at.invariant_of-self c).In-Some) c.drain_done.ensures c.leave.ensures.table c.leave.ensures.carried;
}

pub returns-clause-hand : goal.returns-clause-hand
returns-clause-hand c = (drain_done_does _ _ _ _ (returns-clause-event c)).1.0

pub returns-clause-held : goal.returns-clause-held
returns-clause-held c = (drain_done_does _ _ _ _ (returns-clause-event c)).1.1
