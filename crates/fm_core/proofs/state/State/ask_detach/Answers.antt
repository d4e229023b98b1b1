use Rattle.fm_core.proofs.Words.{the_view, Place, subst, sym, ◌∙◌, IsSound}
use Rattle.fm_world.proofs.Words.{AsksDetach}
use Rattle.fm_world.proofs.Detaching.{ask_detach_does}
use Rattle.fm_core.proofs.Torn.{entered}
use Rattle.fm_core.proofs.state.State.ask_detach.Goals as goal

pub returns-clause-event : goal.returns-clause-event
unfolding AsksDetach
returns-clause-event c =
    rw (sym c.is_idle.ensures ∙ c.if-not-is_idle.false, sym c.self.view_is, sym c.is_queried-is_asked.ensures)
    (entered (the_view c.self.inside) c.args.worker (Place.Query c.args.instance) _ c.may_ask_detach-result.result _
    c.may_ask_detach-result.ensures c.note_entering.ensures)

pub invariant_of-self : goal.invariant_of-self
invariant_of-self c =
    record {
      sound = (ask_detach_does _ _ _ _ _ (returns-clause-event c)).sound (subst IsSound c.self.view_is c.self.invariant.sound);
      tied = c.self.invariant.tied;
    }
