use Rattle.fm_core.proofs.Words.{IsTied, base_of, the_view, base_after, Place, Result, Some, ap, refl, subst, sym, ℕ, ◌∙◌, ◌≡◌, option_copied, BaseCall}
use Rattle.fm_core.proofs.Words.{Answer, FlowRecord, base_fits, changed, InBase, base_step, IsSound, worker_at, same_Some}
use Rattle.fm_world.proofs.Words.{BaseReturns}
use Rattle.fm_world.proofs.Returns.{base_does}
use Rattle.fm_core.proofs.Losing.{sweeping_tied}
use Rattle.fm_core.proofs.Operated.{Comes, comes, base_is, base_returns, base_room, base_tied, in_base, placed, stands_from, there_from}
use Rattle.fm_core.proofs.state.State.base_returned.Goals.{In-Some, After-base_returned}
use Rattle.fm_core.proofs.state.State.base_returned.Goals as goal

at : (c : In-Some) → worker_at (the_view c.self.inside).workers c.args.worker ≡ Some (Place.Base c.in-Some.operation)
at c =
    placed base_of Place.Base c.args.worker c.in-Some.operation c.place.result c.base_of.result base_is c.self.view_is c.place.ensures
    c.base_of.ensures c.in-Some.is

pub unreachable-requires : goal.unreachable-requires
unreachable-requires c =
    there_from c.in-Some.operation c.self.inside.flow InBase (in_base _ c.args.worker c.in-Some.operation c.self.invariant.sound
    (at (goal.at.unreachable-requires c).In-Some))
    (sym c.record.ensures ∙ ap option_copied c.in_default-record.is)

pub base_returned-requires : goal.base_returned-requires
base_returned-requires c =
    stands_from c.in-Some.operation c.self.inside.flow InBase (in_base _ c.args.worker c.in-Some.operation c.self.invariant.sound
    (at (goal.at.base_returned-requires c).In-Some))

-- the call and the answer fit, or they are strange
came : (c : After-base_returned) (answer : Result (Unit {0}) (BaseCall × Answer)) → c.base_returned.result ≡ answer
    → Comes {T = BaseCall × Answer} c.self.inside.flow c.in-Some.operation (base_fits c.args.call c.args.given)
    (base_step (the_view c.self.inside) c.args.call c.args.given) (c.args.call, c.args.given) answer
    c.base_returned.new.self
came c answer is =
    comes c.self.inside.flow c.in-Some.operation c.in-Some-record.record.now (base_fits c.args.call c.args.given)
    (base_step (the_view c.self.inside) c.args.call c.args.given) (c.args.call, c.args.given) c.base_returned.result answer c.base_returned.new.self
    (sym c.record.ensures ∙ ap option_copied c.in-Some-record.is) c.base_returned.ensures.reply
    (subst (λ (n : ℕ). c.base_returned.new.self ≡ changed c.in-Some.operation (base_after c.args.call c.args.given (record { 0 = n })) c.self.inside.flow)
    c.next_number.ensures.result c.base_returned.ensures.after) is

pub returns-in-Err-clause-event : goal.returns-in-Err-clause-event
unfolding BaseReturns
returns-in-Err-clause-event c =
    let here = goal.at.returns-in-Err-clause-event c in
    let strange = came here.After-base_returned _ c.in-Err.is in
    rw (sym c.self.view_is, at here.In-Some, strange.0, strange.1) (refl, refl)

pub returns-in-Err-clause-back : goal.returns-in-Err-clause-back
returns-in-Err-clause-back c = (came (goal.at.returns-in-Err-clause-back c).After-base_returned _ c.in-Err.is).2

pub invariant_of-self : goal.invariant_of-self
invariant_of-self c = record {
  sound = (base_does _ _ _ _ _ _ (returns-in-Err-clause-event c)).sound (subst IsSound c.self.view_is c.self.invariant.sound);
  tied = subst (IsTied c.self.inside.contexts) (sym (came (goal.at.invariant_of-self c).After-base_returned _ c.in-Err.is).1) c.self.invariant.tied;
}

pub note_answer-requires : goal.note_answer-requires
note_answer-requires c =
    let there = in_base (the_view c.self.inside) c.args.worker c.in-Some.operation c.self.invariant.sound (at (goal.at.note_answer-requires c).In-Some) in
    let same = sym c.record.ensures ∙ ap option_copied c.in-Some-record.is in
    base_room c.in-Some.operation c.args.given.status c.in-Some-record.record.now c.target_of-target.result c.self.invariant same
    (ap (λ (r : FlowRecord). r.stage) (same_Some _ _ (sym same ∙ there.1)) ∙ there.2) c.next_number-next.ensures.number c.target_of-target.ensures

pub returns-clause-event : goal.returns-clause-event
returns-clause-event c =
    let here = goal.at.returns-clause-event c in
    let tied = base_tied c.self.inside.contexts c.in-Some.operation c.args.call c.args.given _ c.self.inside.flow c.base_returned.new.self
    c.base_returned.ensures.after c.self.invariant.tied in
    base_returns c.args.worker c.in-Some.operation c.in-Some-record.record.now c.args.call c.args.given c.base_returned.new.self c.put.new.workers
    c.note_answer.new.contexts c.note_answer.new.files.table
    c.target_of-target.result c.self.invariant c.self.view_is (at here.In-Some) (sym c.record.ensures ∙ ap option_copied c.in-Some-record.is)
    (came here.After-base_returned _ c.in_default-base_returned.is)
    c.put.ensures refl tied c.target_of-target.ensures c.note_answer.ensures.files c.note_answer.ensures.links

pub invariant_of-self-2 : goal.invariant_of-self-2
invariant_of-self-2 c = record {
  sound = (base_does _ _ _ _ _ _ (returns-clause-event c)).sound (subst IsSound c.self.view_is c.self.invariant.sound);
  tied = sweeping_tied _ c.self.inside.contexts c.note_answer.new.contexts c.base_returned.new.self c.note_answer.ensures.links
      (base_tied c.self.inside.contexts c.in-Some.operation c.args.call c.args.given _ c.self.inside.flow c.base_returned.new.self c.base_returned.ensures.after
      c.self.invariant.tied);
}
