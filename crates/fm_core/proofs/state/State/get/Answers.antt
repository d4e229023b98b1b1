use Rattle.fm_core.proofs.Words.{the_view, ContextsKept, ap, refl, subst, sym, true, ◌∙◌, grabbed, with_contexts, IsSound, World}
use Rattle.fm_world.proofs.Words.{Gets, there_at, get_refusal}
use Rattle.fm_world.proofs.Linking.{get_does}
use Rattle.fm_core.proofs.Linked.{found_there, get_free, refused_as}
use Rattle.fm_core.specs.Setting.{IsFound}
use Rattle.fm_core.proofs.Called.{called_in, answers_up, answers_tied, table_tied}
use Rattle.fm_core.proofs.state.State.get.Goals as goal

pub returns-in-Err-clause-event : goal.returns-in-Err-clause-event
unfolding Gets
returns-in-Err-clause-event c =
    let at = called_in {old = c.args.self.now} c.args.worker c.in-Some.caller refl (sym c.caller.ensures.callback ∙ c.in-Some.is) in
    rw at.1 (refused_as c.args.self.now c.args.worker at.0 c.in-Some.caller c.args.kind _ c.in-Err.status at.1 at.2 c.in-Err.ensures, refl)

pub returns-clause-event : goal.returns-clause-event
unfolding Gets
returns-clause-event c =
    let old = the_view c.self.inside in
    let at = called_in c.args.worker c.in-Some.caller c.self.view_is (sym c.caller.ensures.callback ∙ c.in-Some.is) in
    let found = subst (λ (v : World). IsFound v c.in-Some.caller c.args.kind c.in-Ok.found) (sym c.self.view_is) c.in-Ok.ensures in
    let there = found_there old at.0 c.in-Some.caller c.args.kind c.in-Ok.found at.2 found in
    let free = get_free old c.args.worker at.0 c.in-Some.caller c.args.kind c.in-Ok.found
    (get_refusal old.contexts c.args.worker.0 (there_at old c.args.kind at.0)) true
    at.1 at.2 found (sym c.is_there.ensures ∙ c.if-not-is_there.false) in
    rw (sym c.self.view_is, at.1, free, there)
    (answers_up old c.self.inside.contexts c.get.new.self _ c.get.result _ _
    (λ id e. (e.0, ap (λ (x : ContextsKept). with_contexts old x.table) e.1)) c.get.ensures)

pub invariant_of-self : goal.invariant_of-self
invariant_of-self c =
    let kept = c.self.inside.contexts in record {
      sound = (get_does _ _ _ _ _ (returns-clause-event c)).0.sound (subst IsSound c.self.view_is c.self.invariant.sound);
      tied = answers_tied kept c.get.new.self c.self.inside.flow _ c.get.result _ (λ id e.
          table_tied kept c.get.new.self (grabbed kept.table c.args.worker.0 id) c.self.inside.flow
          (λ d. refl) e.1 c.self.invariant.tied) c.get.ensures c.self.invariant.tied;
    }

pub returns-clause-held : goal.returns-clause-held
returns-clause-held c = (get_does _ _ _ _ _ (returns-clause-event c)).1 (subst IsSound c.self.view_is c.self.invariant.sound)
