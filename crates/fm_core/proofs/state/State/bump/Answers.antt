use Rattle.fm_core.proofs.Words.{the_view, ContextsKept, ap, subst, sym, ◌∙◌, with_contexts, IsSound}
use Rattle.fm_world.proofs.Words.{Bumps}
use Rattle.fm_core.proofs.Called.{answers_tied, table_tied, rewritten_there, comes_up}
use Rattle.fm_ctx.specs.Bodies.{bumped}
use Rattle.fm_world.proofs.Callbacks.{bump_does}
use Rattle.fm_core.proofs.state.State.bump.Goals as goal

pub returns-clause-event : goal.returns-clause-event
unfolding Bumps
returns-clause-event c =
    let old = the_view c.self.inside in
    rw (sym c.self.view_is) (comes_up old c.args.worker c.in-Some._caller c.self.inside.contexts c.bump.new.self _ c.bump.result _ _ c.self.view_is
    (sym c.caller.ensures.callback ∙ c.in-Some.is) (λ v e. (e.0, ap (λ (x : ContextsKept). with_contexts old x.table) e.1)) c.bump.ensures)

pub invariant_of-self : goal.invariant_of-self
invariant_of-self c =
    let kept = c.self.inside.contexts in record {
      sound = (bump_does _ _ _ _ _ _ _ (returns-clause-event c)).sound (subst IsSound c.self.view_is c.self.invariant.sound);
      tied = answers_tied kept c.bump.new.self c.self.inside.flow _ c.bump.result _ (λ v e.
          table_tied kept c.bump.new.self (bumped kept.table c.args.context c.args.place c.args.by) c.self.inside.flow
          (rewritten_there kept.table c.args.context _) e.1 c.self.invariant.tied) c.bump.ensures c.self.invariant.tied;
    }
