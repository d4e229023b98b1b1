use Rattle.fm_core.proofs.Words.{the_view, new_context, subst, sym, ◌∙◌, allocate_refusal, IsSound}
use Rattle.fm_world.proofs.Linking.{allocate_does}
use Rattle.fm_core.proofs.Called.{allocate_tied, allocated_up}
use Rattle.fm_core.proofs.state.State.allocate.Goals as goal

pub returns-clause-event : goal.returns-clause-event
returns-clause-event c =
    allocated_up (the_view c.self.inside) c.args.worker c.args.kind c.args.body c.in-Some.caller c.owner.result c.allocate.result c.self.inside.contexts
    c.allocate.new.self c.self.view_is (sym c.caller.ensures.callback ∙ c.in-Some.is) (sym c.has_kind.ensures ∙ c.if-not-has_kind.false) c.owner.ensures
    c.allocate.ensures

pub invariant_of-self : goal.invariant_of-self
invariant_of-self c = record {
  sound = (allocate_does _ _ _ _ _ _ (returns-clause-event c)).0.sound (subst IsSound c.self.view_is c.self.invariant.sound);
  tied = allocate_tied c.self.inside.contexts c.allocate.new.self c.self.inside.flow c.args.worker (allocate_refusal c.self.inside.contexts.table
      c.args.worker.0 c.args.body)
      (new_context c.args.kind c.owner.result c.in-Some.caller.volume c.args.body) c.allocate.result c.laws.ensures.matched
      c.allocate.ensures c.self.invariant.tied;
}

pub returns-clause-held : goal.returns-clause-held
returns-clause-held c = (allocate_does _ _ _ _ _ _ (returns-clause-event c)).1 (subst IsSound c.self.view_is c.self.invariant.sound)
