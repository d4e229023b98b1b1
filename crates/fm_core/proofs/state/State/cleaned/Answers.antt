use Rattle.fm_core.proofs.Words.{the_view, Some, ap, refl, subst, sym, ◌∙◌, ◌≡◌, context_at, IsSound, cleanup_in, worker_at}
use Rattle.fm_world.proofs.Words.{Cleans}
use Rattle.fm_world.specs.declared.place.Place.TheVariants.{Cleanup}
use Rattle.fm_world.proofs.Cleanups.{cleaned_does}
use Rattle.fm_core.proofs.Cleaned.{cleanup_is, clean_tied, filter_same}
use Rattle.fm_core.proofs.Operated.{placed, within_at}
use Rattle.fm_core.proofs.state.State.cleaned.Goals.{In-Some}
use Rattle.fm_core.proofs.state.State.cleaned.Goals as goal

at : (c : In-Some) → worker_at (the_view c.self.inside).workers c.args.worker ≡ Some (Cleanup c.in-Some.context)
at c =
    placed cleanup_in Cleanup c.args.worker c.in-Some.context c.place.result c.cleanup_of.result cleanup_is c.self.view_is c.place.ensures c.cleanup_of.ensures
    c.in-Some.is

pub returns-clause-event : goal.returns-clause-event
unfolding Cleans
returns-clause-event c =
    rw (
      sym c.self.view_is,
      at (goal.at.returns-clause-event c).In-Some,
      c.put.ensures,
      c.cleaned.ensures,
      c.add_total.ensures,
      c.filter_of-filter.ensures,
      c.owner_of.ensures,
      filter_same c.self.inside.stack (context_at c.self.inside.contexts.table.slots c.in-Some.context),
    ) (refl, refl)

pub invariant_of-self : goal.invariant_of-self
invariant_of-self c =
    let here = at (goal.at.invariant_of-self c).In-Some in
    let sound = c.self.invariant.sound in record {
      sound = (cleaned_does _ _ _ _ _ (returns-clause-event c)).sound (subst IsSound c.self.view_is sound);
      tied = clean_tied c.self.inside.contexts c.cleaned.new.self c.self.inside.flow c.args.worker c.in-Some.context sound.owned.lawful
          (within_at c.args.worker _ c.self.invariant here)
          (sound.owned.cleaning c.args.worker.0 ∙ ap cleanup_in here) c.cleaned.ensures c.self.invariant.tied;
    }
