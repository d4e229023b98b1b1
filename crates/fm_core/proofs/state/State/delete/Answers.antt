use Rattle.fm_core.proofs.Words.{the_view, ContextsKept, carried_of, ap, refl, subst, sym, ◌∙◌, holder, with_contexts, IsSound, World, carries}
use Rattle.fm_world.proofs.Words.{Deletes, there_at, delete_refusal, delete_after}
use Rattle.fm_world.proofs.Linking.{delete_does}
use Rattle.fm_core.proofs.Linked.{found_there, found_free, deleted_there, refused_as}
use Rattle.fm_ctx.proofs.Alike.{delete_alike}
use Rattle.fm_core.specs.Setting.{IsFound}
use Rattle.fm_core.proofs.Called.{called_in, answers_up, answers_tied, table_tied}
use Rattle.fm_core.proofs.state.State.delete.Goals as goal

pub returns-in-Err-clause-event : goal.returns-in-Err-clause-event
unfolding Deletes
returns-in-Err-clause-event c =
    let at = called_in {old = c.args.self.now} c.args.worker c.in-Some.caller refl (sym c.caller.ensures.callback ∙ c.in-Some.is) in
    rw at.1 (refused_as c.args.self.now c.args.worker at.0 c.in-Some.caller c.args.kind _ c.in-Err.status at.1 at.2 c.in-Err.ensures, refl)

pub returns-clause-event : goal.returns-clause-event
unfolding Deletes
returns-clause-event c =
    let old = the_view c.self.inside in
    let at = called_in c.args.worker c.in-Some.caller c.self.view_is (sym c.caller.ensures.callback ∙ c.in-Some.is) in
    let found = subst (λ (v : World). IsFound v c.in-Some.caller c.args.kind c.in-Ok.found) (sym c.self.view_is) c.in-Ok.ensures in
    let id = holder old.contexts.slots c.in-Ok.found.0 c.in-Ok.found.1 in
    let there = found_there old at.0 c.in-Some.caller c.args.kind c.in-Ok.found at.2 found in
    let free = found_free old c.args.worker at.0 c.in-Some.caller c.args.kind
    (delete_refusal old.contexts c.args.worker.0 c.args.wants_old (there_at old c.args.kind at.0))
    at.1 at.2 found.free in
    let alike = delete_alike (carried_of c.self.inside.contexts) (carries old) old.contexts c.args.worker.0 c.args.wants_old id c.self.invariant.tied in
    rw (sym c.self.view_is, at.1, free, there)
    (answers_up old c.self.inside.contexts c.delete.new.self _ c.delete.result _ _
    (λ id e. (e.0, ap (λ (x : ContextsKept). with_contexts old x.table) e.1 ∙ ap (with_contexts old) alike)) c.delete.ensures)

pub invariant_of-self : goal.invariant_of-self
invariant_of-self c =
    let kept = c.self.inside.contexts in
    let there = holder kept.table.slots c.in-Ok.found.0 c.in-Ok.found.1 in record {
      sound = (delete_does _ _ _ _ _ _ (returns-clause-event c)).0.sound (subst IsSound c.self.view_is c.self.invariant.sound);
      tied = answers_tied kept c.delete.new.self c.self.inside.flow _ c.delete.result _ (λ id e.
          table_tied kept c.delete.new.self (delete_after (carried_of kept) kept.table c.args.worker.0 c.args.wants_old there) c.self.inside.flow
          (deleted_there (carried_of kept) kept.table c.args.worker.0 c.args.wants_old there) e.1 c.self.invariant.tied) c.delete.ensures c.self.invariant.tied;
    }

pub returns-clause-hand : goal.returns-clause-hand
returns-clause-hand c = ((delete_does _ _ _ _ _ _ (returns-clause-event c)).1 (subst IsSound c.self.view_is c.self.invariant.sound)).0

pub returns-clause-held : goal.returns-clause-held
returns-clause-held c = ((delete_does _ _ _ _ _ _ (returns-clause-event c)).1 (subst IsSound c.self.view_is c.self.invariant.sound)).1
