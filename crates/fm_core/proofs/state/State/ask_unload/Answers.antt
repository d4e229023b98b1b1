use Rattle.fm_core.proofs.Words.{the_view, Place, subst, sym, ◌∙◌, IsSound}
use Rattle.fm_world.proofs.Words.{AsksUnload}
use Rattle.fm_world.proofs.Unloading.{ask_unload_does}
use Rattle.fm_core.proofs.Torn.{entered}
use Rattle.fm_core.proofs.state.State.ask_unload.Goals as goal

pub returns-clause-event : goal.returns-clause-event
unfolding AsksUnload
returns-clause-event c =
    rw (sym c.is_idle.ensures ∙ c.if-not-is_idle.false, sym c.self.view_is, sym c.is_asked_to_unload-is_asked.ensures)
    (entered (the_view c.self.inside) c.args.worker (Place.Unload c.args.filter) _ c.may_ask_unload-result.result _
    c.may_ask_unload-result.ensures c.note_entering.ensures)

pub invariant_of-self : goal.invariant_of-self
invariant_of-self c =
    record {
      sound = (ask_unload_does _ _ _ _ _ (returns-clause-event c)).sound (subst IsSound c.self.view_is c.self.invariant.sound);
      tied = c.self.invariant.tied;
    }
