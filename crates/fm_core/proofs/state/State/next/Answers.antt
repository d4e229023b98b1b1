use Rattle.fm_core.proofs.Words.{the_view, next_does, Err, None, Result, ap, refl, subst, sym, true, ◌∙◌, ◌≡◌, option_copied, operation_at, FlowAction, Status}
use Rattle.fm_core.proofs.Words.{IsSound, is_idle, worker_at, World}
use Rattle.fm_core.proofs.Losing.{sweeping_tied}
use Rattle.fm_core.proofs.Operated.{Goes, goes, next_answers, next_brings, next_leads, next_requires, next_room, next_stays, next_tied, next_unknown, nexts}
use Rattle.fm_core.proofs.state.State.next.Goals.{After-next}
use Rattle.fm_core.proofs.state.State.next.Goals as goal

pub returns-in_default-clause-event : goal.returns-in_default-clause-event
returns-in_default-clause-event c =
    next_unknown c.args.self.now c.args.worker c.args.operation (sym c.is_idle.ensures ∙ c.if-not-is_idle.false)
    (subst (λ (w : World). operation_at c.args.operation w.flow ≡ None) c.self.view_is (sym c.record.ensures ∙ ap option_copied c.in_default.is))

pub next-requires : goal.next-requires
next-requires c =
    next_requires c.args.operation c.lies_below-below.result c.in-Some.record.now c.self.invariant (sym c.record.ensures ∙ ap option_copied c.in-Some.is)
    c.lies_below-below.ensures.finds c.lies_below-below.ensures.down

-- the operation goes on
went : (c : After-next) (result : Result FlowAction Status) → c.next.result ≡ result
    → Goes (the_view c.self.inside) c.args.worker c.args.operation c.in-Some.record.now c.lies_below-below.result result c.next.new.self
went c result is =
    subst (λ x. Goes (the_view c.self.inside) c.args.worker c.args.operation c.in-Some.record.now c.lies_below-below.result x c.next.new.self) is
    (goes _ c.args.worker c.args.operation c.in-Some.record.now c.lies_below-below.result c.drains_next-drains.result c.next.result c.next.new.self
    (sym c.record.ensures ∙ ap option_copied c.in-Some.is) c.lies_below-below.ensures.finds c.drains_next-drains.ensures
    c.next.ensures.reply c.next.ensures.after)

idle : (c : After-next) → is_idle (worker_at (the_view c.self.inside).workers c.args.worker) ≡ true
idle c = subst (λ (w : World). is_idle (worker_at w.workers c.args.worker) ≡ true) (sym c.self.view_is) (sym c.is_idle.ensures ∙ c.if-not-is_idle.false)

pub returns-in-Err-clause-event : goal.returns-in-Err-clause-event
returns-in-Err-clause-event c =
    let at = (goal.at.returns-in-Err-clause-event c).After-next in
    let old = the_view c.self.inside in
    rw (sym c.self.view_is) (nexts old c.args.worker c.args.operation c.in-Some.record.now c.lies_below-below.result
    (Err c.in-Err.status) c.next.new.self old.workers old.contexts
    old.files (record old { flow = c.next.new.self }) (idle at) (went at _ c.in-Err.is) refl refl refl refl)

pub invariant_of-self : goal.invariant_of-self
invariant_of-self c = record {
  sound = (next_does _ _ _ _ _ (returns-in-Err-clause-event c)).0.sound (subst IsSound c.self.view_is c.self.invariant.sound);
  tied = next_stays c.args.worker c.args.operation c.in-Some.record.now c.lies_below-below.result c.in-Err.status c.next.new.self c.self.invariant
      (went (goal.at.invariant_of-self c).After-next _ c.in-Err.is);
}

pub returns-in-Err-clause-nothing : goal.returns-in-Err-clause-nothing
returns-in-Err-clause-nothing c = (next_does _ _ _ _ _ (returns-in-Err-clause-event c)).2

pub bring_back-requires : goal.bring_back-requires
bring_back-requires c =
    let at = (goal.at.bring_back-requires c).After-next in
    next_brings c.args.worker c.args.operation c.in-Some.record.now c.lies_below-below.result c.in-Ok.action c.next.new.self c.self.invariant (idle at)
    (went at _ c.in-Ok.is) refl

pub returns-in_default-known_in-clause-event : goal.returns-in_default-known_in-clause-event
returns-in_default-known_in-clause-event c =
    let at = (goal.at.returns-in_default-known_in-clause-event c).After-next in
    next_leads c.args.worker c.args.operation c.in-Some.record.now c.lies_below-below.result c.in-Ok.action c.next.new.self c.note_next.new.workers
    c.bring_back.new.contexts c.self.invariant
    c.self.view_is (idle at) (went at _ c.in-Ok.is) c.note_next.ensures refl c.bring_back.ensures (sym c.known_in.ensures ∙ c.in_default-known_in.is)

pub invariant_of-self-in_default-known_in : goal.invariant_of-self-in_default-known_in
invariant_of-self-in_default-known_in c = record {
  sound = (next_does _ _ _ _ _ (returns-in_default-known_in-clause-event c)).0.sound (subst IsSound c.self.view_is c.self.invariant.sound);
  tied = next_tied c.args.worker c.args.operation c.in-Some.record.now c.lies_below-below.result c.in-Ok.action c.next.new.self c.bring_back.new.contexts
      c.self.invariant
      (went (goal.at.invariant_of-self-in_default-known_in c).After-next _ c.in-Ok.is) c.laws.ensures.matched c.bring_back.ensures;
}

pub returns-in_default-known_in-clause-nothing : goal.returns-in_default-known_in-clause-nothing
returns-in_default-known_in-clause-nothing c = (next_does _ _ _ _ _ (returns-in_default-known_in-clause-event c)).2

pub returns-in_default-known_in-clause-hand : goal.returns-in_default-known_in-clause-hand
returns-in_default-known_in-clause-hand c = ((next_does _ _ _ _ _ (returns-in_default-known_in-clause-event c)).1
    (subst IsSound c.self.view_is c.self.invariant.sound)).0

pub returns-in_default-known_in-clause-held : goal.returns-in_default-known_in-clause-held
returns-in_default-known_in-clause-held c = ((next_does _ _ _ _ _ (returns-in_default-known_in-clause-event c)).1
    (subst IsSound c.self.view_is c.self.invariant.sound)).1

pub note_answer-requires : goal.note_answer-requires
note_answer-requires c =
    next_room c.args.worker c.args.operation c.in-Some.record.now c.lies_below-below.result c.in-Ok.action c.next.new.self c.target_of-target.result
    c.in-Some-known_in.status c.self.invariant
    c.next_number-next.ensures.number (went (goal.at.note_answer-requires c).After-next _ c.in-Ok.is) (sym c.known_in.ensures ∙ c.in-Some-known_in.is)
    c.target_of-target.ensures

pub returns-clause-event : goal.returns-clause-event
returns-clause-event c =
    let at = (goal.at.returns-clause-event c).After-next in
    let went' = went at _ c.in-Ok.is in
    let tied = next_tied c.args.worker c.args.operation c.in-Some.record.now c.lies_below-below.result c.in-Ok.action c.next.new.self c.bring_back.new.contexts
    c.self.invariant
    went' c.laws.ensures.matched c.bring_back.ensures in
    next_answers c.args.worker c.args.operation c.in-Some.record.now c.lies_below-below.result c.in-Ok.action c.next.new.self c.note_next.new.workers
    c.bring_back.new.contexts
    c.note_answer.new.contexts c.note_answer.new.files.table c.target_of-target.result c.in-Some-known_in.status c.self.invariant c.self.view_is (idle at) went'
    c.note_next.ensures refl c.bring_back.ensures
    tied (sym c.known_in.ensures ∙ c.in-Some-known_in.is) c.target_of-target.ensures c.note_answer.ensures.files c.note_answer.ensures.links

pub invariant_of-self-2 : goal.invariant_of-self-2
invariant_of-self-2 c = record {
  sound = (next_does _ _ _ _ _ (returns-clause-event c)).0.sound (subst IsSound c.self.view_is c.self.invariant.sound);
  tied = sweeping_tied _ c.bring_back.new.contexts c.note_answer.new.contexts c.next.new.self c.note_answer.ensures.links
      (next_tied c.args.worker c.args.operation c.in-Some.record.now c.lies_below-below.result c.in-Ok.action c.next.new.self c.bring_back.new.contexts
      c.self.invariant
      (went (goal.at.invariant_of-self-2 c).After-next _ c.in-Ok.is) c.laws.ensures.matched c.bring_back.ensures);
}
