use Rattle.fm_core.proofs.Words.{the_view, ContextsKept, carried_of, release_does, ap, refl, subst, sym, ◌∙◌, with_contexts, IsSound, carries}
use Rattle.fm_world.proofs.Words.{Releases, released}
use Rattle.fm_core.proofs.Called.{answers_tied, table_tied, comes_up}
use Rattle.fm_ctx.proofs.Alike.{released_alike}
use Rattle.fm_core.proofs.state.State.release.Goals as goal

pub returns-clause-event : goal.returns-clause-event
unfolding Releases
returns-clause-event c =
    let old = the_view c.self.inside in
    rw (sym c.self.view_is) (comes_up old c.args.worker c.in-Some._caller c.self.inside.contexts c.release.new.self _ c.release.result _ _ c.self.view_is
    (sym c.caller.ensures.callback ∙ c.in-Some.is) (λ v e. ap (λ (x : ContextsKept). with_contexts old x.table) e
    ∙ ap (with_contexts old) (released_alike (carried_of c.self.inside.contexts) (carries old) old.contexts c.args.worker.0
    c.args.context (c.self.invariant.tied c.args.context))) c.release.ensures)

pub invariant_of-self : goal.invariant_of-self
invariant_of-self c =
    let kept = c.self.inside.contexts in record {
      sound = (release_does _ _ _ _ _ (returns-clause-event c)).0.sound (subst IsSound c.self.view_is c.self.invariant.sound);
      tied = answers_tied kept c.release.new.self c.self.inside.flow _ c.release.result _ (λ v e.
          table_tied kept c.release.new.self (released (carried_of kept) kept.table c.args.worker.0 c.args.context) c.self.inside.flow
          (λ d. refl) e c.self.invariant.tied) c.release.ensures c.self.invariant.tied;
    }

pub returns-clause-held : goal.returns-clause-held
returns-clause-held c = (release_does _ _ _ _ _ (returns-clause-event c)).1 (subst IsSound c.self.view_is c.self.invariant.sound)
