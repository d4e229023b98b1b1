use Rattle.fm_core.proofs.Words.{the_view, ContextsKept, ap, subst, sym, ◌∙◌, with_contexts, IsSound}
use Rattle.fm_world.proofs.Words.{WritesBody, rewritten}
use Rattle.fm_core.proofs.Called.{answers_tied, table_tied, rewritten_there, comes_up}
use Rattle.fm_world.proofs.Callbacks.{write_body_does}
use Rattle.fm_core.proofs.state.State.write_body.Goals as goal

pub returns-clause-event : goal.returns-clause-event
unfolding WritesBody
returns-clause-event c =
    let old = the_view c.self.inside in
    rw (sym c.self.view_is) (comes_up old c.args.worker c.in-Some._caller c.self.inside.contexts c.write_body.new.self _ c.write_body.result _ _ c.self.view_is
    (sym c.caller.ensures.callback ∙ c.in-Some.is) (λ v e. ap (λ (x : ContextsKept). with_contexts old x.table) e) c.write_body.ensures)

pub invariant_of-self : goal.invariant_of-self
invariant_of-self c =
    let kept = c.self.inside.contexts in record {
      sound = (write_body_does _ _ _ _ _ _ (returns-clause-event c)).sound (subst IsSound c.self.view_is c.self.invariant.sound);
      tied = answers_tied kept c.write_body.new.self c.self.inside.flow _ c.write_body.result _ (λ v e.
          table_tied kept c.write_body.new.self (rewritten kept.table c.args.context c.args.bytes.now) c.self.inside.flow
          (rewritten_there kept.table c.args.context c.args.bytes.now) e c.self.invariant.tied) c.write_body.ensures c.self.invariant.tied;
    }
