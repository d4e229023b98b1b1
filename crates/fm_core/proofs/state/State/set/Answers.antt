use Rattle.fm_core.proofs.Words.{the_view, carried_of, subst, sym, ◌∙◌, holder, IsSound}
use Rattle.fm_world.proofs.Words.{set_after}
use Rattle.fm_world.proofs.Linking.{set_does}
use Rattle.fm_core.proofs.Linked.{set_up, set_there}
use Rattle.fm_core.proofs.Called.{table_tied}
use Rattle.fm_core.proofs.state.State.set.Goals as goal

pub returns-clause-event : goal.returns-clause-event
returns-clause-event c =
    set_up (the_view c.self.inside) c.args.worker c.args.context c.args.mode c.args.wants_old c.in-Some.caller c.in-Ok.found c.set-reply.result
    c.set_answer.result c.self.inside.contexts c.set-reply.new.self c.self.view_is (sym c.caller.ensures.callback ∙ c.in-Some.is)
    c.in-Ok.ensures c.self.invariant.tied c.set_answer.ensures c.set-reply.ensures.reply c.set-reply.ensures.after

pub invariant_of-self : goal.invariant_of-self
invariant_of-self c =
    let kept = c.self.inside.contexts in
    let there = holder kept.table.slots c.in-Ok.found.0 c.in-Ok.found.1 in record {
      sound = (set_does _ _ _ _ _ _ _ (returns-clause-event c)).0.sound (subst IsSound c.self.view_is c.self.invariant.sound);
      tied = table_tied kept c.set-reply.new.self (set_after (carried_of kept) kept.table c.args.worker.0 c.args.context
          c.in-Ok.found.1 c.args.mode c.args.wants_old there)
          c.self.inside.flow (set_there (carried_of kept) kept.table c.args.worker.0 c.args.context c.in-Ok.found.1 c.args.mode c.args.wants_old there)
          c.set-reply.ensures.after c.self.invariant.tied;
    }

pub returns-clause-hand : goal.returns-clause-hand
returns-clause-hand c = ((set_does _ _ _ _ _ _ _ (returns-clause-event c)).1 (subst IsSound c.self.view_is c.self.invariant.sound)).0

pub returns-clause-held : goal.returns-clause-held
returns-clause-held c = ((set_does _ _ _ _ _ _ _ (returns-clause-event c)).1 (subst IsSound c.self.view_is c.self.invariant.sound)).1
