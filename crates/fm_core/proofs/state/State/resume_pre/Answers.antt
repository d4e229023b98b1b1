use Rattle.fm_core.proofs.Words.{IsTied, kept_sent, Sweeping, is_lost_of, the_view, ContextsKept, placed_below, Some, ap, refl, subst, sym, ◌∙◌, ◌≡◌}
use Rattle.fm_core.proofs.Words.{pre_settled, changed, state_at, place_in, IsSound, worker_at}
use Rattle.fm_world.proofs.Resumes.{resume_pre_does}
use Rattle.fm_core.proofs.Losing.{sweeping_tied}
use Rattle.fm_core.proofs.Operated.{pre_state, sends_held}
use Rattle.fm_core.proofs.Resumed.{by_that, placed_so, pre_resumes, resume_tied, stands_pre_held}
use Rattle.fm_core.proofs.state.State.resume_pre.Goals.{In-Some, After-counted-state, After-sent_in}
use Rattle.fm_operations.specs.declared.hold.Hold.TheVariants as hold
use Rattle.fm_core.proofs.state.State.resume_pre.Goals as goal

at : (c : In-Some) → place_in (worker_at (the_view c.self.inside).workers c.args.worker) ≡ Some c.in-Some.instance
at c = placed_so c.args.worker c.in-Some.instance c.instance_of.result c.self.view_is c.instance_of.ensures c.in-Some.is

pub resume_pre-requires-clause-stage : goal.resume_pre-requires-clause-stage
resume_pre-requires-clause-stage c = stands_pre_held c.self.inside.flow c.args.operation c.in-Some.instance
    c.in-Some-held_record.held.now c.self.invariant.sound.under_way.flow c.in-Some-held_record.ensures.some

pub of_hand-verdict-requires : goal.of_hand-verdict-requires
of_hand-verdict-requires c = placed_below (the_view c.self.inside) c.args.worker c.in-Some.instance
    (at (goal.at.of_hand-verdict-requires c).In-Some) c.self.invariant.sound

pub send-requires-clause-within : goal.send-requires-clause-within
send-requires-clause-within c = placed_below (the_view c.self.inside) c.args.worker c.in-Some.instance
    (at (goal.at.send-requires-clause-within c).In-Some) c.self.invariant.sound

-- the verdict that counts
state : (c : After-counted-state) → c.counted-state.result ≡ state_at (the_view c.self.inside) c.args.worker c.args.operation c.in-Some.instance c.args.verdict
state c =
    pre_state (the_view c.self.inside) c.args.worker c.args.operation c.in-Some.instance c.in-Some-held_record.held.now c.args.verdict c.of_hand-verdict.result
    c.has_post-has_post.result c.counted-state.result c.target_of-target.result.operation c.in-Some-held_record.ensures.some.0
    (ap (λ x. x.operation) c.target_of-target.ensures)
    c.has_post-has_post.ensures c.of_hand-verdict.ensures c.counted-state.ensures.value

pub send-requires-clause-sends : goal.send-requires-clause-sends
send-requires-clause-sends c =
    sends_held c.args.worker c.args.operation c.in-Some.instance c.args.verdict c.counted-state.result c.sent_in.result c.self.invariant
    (state (goal.at.send-requires-clause-sends c).After-counted-state) c.sent_in.ensures refl

-- completions carry what it sends along
tied : (c : After-sent_in) → IsTied (kept_sent c.self.inside.contexts c.args.worker.0 c.sent_in.result)
    (changed c.args.operation (pre_settled c.counted-state.result) c.self.inside.flow)
tied c =
    let here = goal.at.send-requires-clause-sends c in
    resume_tied c.args.worker c.args.operation c.in-Some.instance c.args.verdict c.counted-state.result c.sent_in.result c.self.invariant (at here.In-Some)
    (by_that (the_view c.self.inside) hold.Pre c.args.operation c.in-Some.instance c.in-Some-held_record.held.now
    c.in-Some-held_record.ensures.some) (state here.After-counted-state)
    c.sent_in.ensures refl c.laws.ensures.matched

pub returns-clause-event : goal.returns-clause-event
returns-clause-event c =
    let here = goal.at.returns-clause-event c in
    pre_resumes c.args.worker c.args.operation c.in-Some.instance c.in-Some-held_record.held.now c.args.verdict c.counted-state.result
    c.sent_in.result c.resume_pre.new.self
    c.note_verdict.new.contexts c.note_verdict.new.files.table c.target_of-target.result c.self.invariant c.self.view_is
    (at here.In-Some) c.in-Some-held_record.ensures.some
    (sym c.lets_go.ensures ∙ c.if-not-lets_go.false) (state here.After-counted-state) c.sent_in.ensures c.resume_pre.ensures refl (tied here.After-sent_in)
    c.target_of-target.ensures c.note_verdict.ensures.files
    (subst (λ (y : ContextsKept). Sweeping (is_lost_of c.note_verdict.new.files.table c.target_of-target.result) y
    c.note_verdict.new.contexts) c.send.ensures c.note_verdict.ensures.links)

pub invariant_of-self : goal.invariant_of-self
invariant_of-self c =
    let here = goal.at.invariant_of-self c in
    record {
      sound = (resume_pre_does _ _ _ _ _ _ (returns-clause-event c)).0.sound (subst IsSound c.self.view_is c.self.invariant.sound);
      tied = sweeping_tied _ c.send.new.contexts c.note_verdict.new.contexts c.resume_pre.new.self c.note_verdict.ensures.links
          (subst (IsTied c.send.new.contexts) (sym c.resume_pre.ensures)
          (subst (λ (y : ContextsKept). IsTied y (changed c.args.operation (pre_settled c.counted-state.result) c.self.inside.flow))
          (sym c.send.ensures) (tied here.After-sent_in)));
    }

pub returns-clause-held : goal.returns-clause-held
returns-clause-held c = ((resume_pre_does _ _ _ _ _ _ (returns-clause-event c)).1 (subst IsSound c.self.view_is c.self.invariant.sound)).1

pub returns-clause-hand : goal.returns-clause-hand
returns-clause-hand c = ((resume_pre_does _ _ _ _ _ _ (returns-clause-event c)).1 (subst IsSound c.self.view_is c.self.invariant.sound)).0
