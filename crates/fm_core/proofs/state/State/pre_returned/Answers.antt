use Rattle.fm_core.proofs.Words.{IsTied, pre_of, the_view, pre_does, Place, Result, Some, ap, refl, subst, sym, ◌∙◌, ◌≡◌, option_copied, Data, data_fits}
use Rattle.fm_core.proofs.Words.{FlowRecord, pre_returned_of, changed, PreRunning, state_at, IsSound, worker_at}
use Rattle.fm_world.proofs.Words.{PreReturns}
use Rattle.fm_core.proofs.Holding.{tied_ends}
use Rattle.fm_core.proofs.Losing.{sweeping_tied}
use Rattle.fm_core.proofs.Operated.{Comes, comes, in_pre, placed, pre_is, pre_returns, sends_held, pre_state, pre_tied, stands_from, there_from, within_at}
use Rattle.fm_core.proofs.state.State.pre_returned.Goals.{In-Some, After-pre_returned}
use Rattle.fm_core.proofs.state.State.pre_returned.Goals as goal

at : (c : In-Some) → worker_at (the_view c.self.inside).workers c.args.worker ≡ Some (Place.Pre c.in-Some.operation c.in-Some.instance)
at c =
    placed pre_of (λ p. Place.Pre p.0 p.1) c.args.worker (c.in-Some.operation, c.in-Some.instance) c.place.result c.pre_of.result pre_is c.self.view_is
    c.place.ensures c.pre_of.ensures c.in-Some.is

pub unreachable-requires : goal.unreachable-requires
unreachable-requires c =
    there_from c.in-Some.operation c.self.inside.flow PreRunning (in_pre _ c.args.worker c.in-Some.operation c.in-Some.instance c.self.invariant.sound
    (at (goal.at.unreachable-requires c).In-Some))
    (sym c.record.ensures ∙ ap option_copied c.in_default-record.is)

pub of_hand-verdict-requires : goal.of_hand-verdict-requires
of_hand-verdict-requires c = within_at c.args.worker _ c.self.invariant (at (goal.at.of_hand-verdict-requires c).In-Some)

pub pre_returned-requires-clause-stage : goal.pre_returned-requires-clause-stage
pre_returned-requires-clause-stage c =
    stands_from c.in-Some.operation c.self.inside.flow PreRunning
    (in_pre _ c.args.worker c.in-Some.operation c.in-Some.instance c.self.invariant.sound (at (goal.at.pre_returned-requires-clause-stage c).In-Some))

-- the data fits, or it is strange
came : (c : After-pre_returned) (answer : Result (Unit {0}) Data) → c.pre_returned.result ≡ answer
    → Comes c.self.inside.flow c.in-Some.operation (λ (r : FlowRecord). data_fits r.operation r.path c.args.lent)
    (pre_returned_of c.counted-state.result c.args.lent) c.args.lent answer c.pre_returned.new.self
came c answer is =
    comes c.self.inside.flow c.in-Some.operation c.in-Some-record.record.now _ _ c.args.lent c.pre_returned.result answer c.pre_returned.new.self
    (sym c.record.ensures ∙ ap option_copied c.in-Some-record.is) c.pre_returned.ensures.reply c.pre_returned.ensures.after is

pub returns-in-Err-clause-event : goal.returns-in-Err-clause-event
unfolding PreReturns
returns-in-Err-clause-event c =
    let here = goal.at.returns-in-Err-clause-event c in
    let strange = came here.After-pre_returned _ c.in-Err.is in
    rw (sym c.self.view_is, at here.In-Some, strange.0, strange.1) (refl, refl)

pub invariant_of-self : goal.invariant_of-self
invariant_of-self c = record {
  sound = (pre_does _ _ _ _ _ _ (returns-in-Err-clause-event c)).0.sound (subst IsSound c.self.view_is c.self.invariant.sound);
  tied = subst (IsTied c.self.inside.contexts) (sym (came (goal.at.invariant_of-self c).After-pre_returned _ c.in-Err.is).1) c.self.invariant.tied;
}

-- the verdict that counts
state : (c : After-pre_returned) → c.counted-state.result
    ≡ state_at (the_view c.self.inside) c.args.worker c.in-Some.operation c.in-Some.instance c.args.verdict
state c =
    pre_state (the_view c.self.inside) c.args.worker c.in-Some.operation c.in-Some.instance c.in-Some-record.record.now c.args.verdict c.of_hand-verdict.result
    c.has_post-has_post.result c.counted-state.result
    c.target_of-target.result.operation (sym c.record.ensures ∙ ap option_copied c.in-Some-record.is) (ap (λ x. x.operation) c.target_of-target.ensures)
    c.has_post-has_post.ensures c.of_hand-verdict.ensures
    c.counted-state.ensures.value

pub end_callback-requires-clause-within : goal.end_callback-requires-clause-within
end_callback-requires-clause-within c = within_at c.args.worker _ c.self.invariant (at (goal.at.end_callback-requires-clause-within c).In-Some)

pub end_callback-requires-clause-sends : goal.end_callback-requires-clause-sends
end_callback-requires-clause-sends c =
    let here = goal.at.end_callback-requires-clause-sends c in
    sends_held c.args.worker c.in-Some.operation c.in-Some.instance c.args.verdict c.counted-state.result c.sent_in.result c.self.invariant
    (state here.After-pre_returned) c.sent_in.ensures refl

pub returns-clause-event : goal.returns-clause-event
returns-clause-event c =
    let here = goal.at.returns-clause-event c in
    let tied = pre_tied c.args.worker c.in-Some.operation c.in-Some.instance c.args.verdict c.args.lent c.counted-state.result c.sent_in.result c.self.invariant
    (at here.In-Some) (state here.After-pre_returned)
    c.sent_in.ensures refl c.laws.ensures.matched in
    pre_returns c.args.worker c.in-Some.operation c.in-Some.instance c.in-Some-record.record.now c.args.verdict c.args.lent c.counted-state.result
    c.sent_in.result c.pre_returned.new.self c.put.new.workers
    c.end_callback.new.contexts c.note_verdict.new.contexts c.note_verdict.new.files.table c.target_of-target.result c.self.invariant c.self.view_is
    (at here.In-Some)
    (sym c.record.ensures ∙ ap option_copied c.in-Some-record.is) (state here.After-pre_returned) c.sent_in.ensures
    (came here.After-pre_returned _ c.in_default-pre_returned.is) c.put.ensures refl
    c.end_callback.ensures tied c.target_of-target.ensures c.note_verdict.ensures.files c.note_verdict.ensures.links

pub invariant_of-self-2 : goal.invariant_of-self-2
invariant_of-self-2 c =
    let here = goal.at.invariant_of-self-2 c in
    let tied = pre_tied c.args.worker c.in-Some.operation c.in-Some.instance c.args.verdict c.args.lent c.counted-state.result c.sent_in.result c.self.invariant
    (at here.In-Some) (state here.After-pre_returned)
    c.sent_in.ensures refl c.laws.ensures.matched in
    record {
      sound = (pre_does _ _ _ _ _ _ (returns-clause-event c)).0.sound (subst IsSound c.self.view_is c.self.invariant.sound);
      tied = sweeping_tied _ c.end_callback.new.contexts c.note_verdict.new.contexts c.pre_returned.new.self c.note_verdict.ensures.links
          (subst (IsTied c.end_callback.new.contexts) (sym (came here.After-pre_returned _ c.in_default-pre_returned.is).1)
          (tied_ends _ c.end_callback.new.contexts c.args.worker.0 (changed c.in-Some.operation (pre_returned_of c.counted-state.result c.args.lent)
          c.self.inside.flow) c.end_callback.ensures tied));
    }

pub returns-clause-hand : goal.returns-clause-hand
returns-clause-hand c = (pre_does _ _ _ _ _ _ (returns-clause-event c)).1.0

pub returns-clause-held : goal.returns-clause-held
returns-clause-held c = (pre_does _ _ _ _ _ _ (returns-clause-event c)).1.1
