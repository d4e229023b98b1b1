use Rattle.fm_core.proofs.Words.{List, [], subst, sym, ◌++◌, ◌∷◌, Headline, RunThrough, empty_world}
use Rattle.fm_world.proofs.Runs.{run_more}
use Rattle.fm_world.specs.declared.step.StepReply.{StepReply}
use Rattle.fm_core.proofs.runs.run.Goals as goal

pub loop-step-preserved : goal.loop-step-preserved
loop-step-preserved c =
    let h = run_more Headline empty_world c.loop-step.yielded c.loop-step.replies.items c.loop-step.state c.in-Some.step
    c.step-reply.result c.step-reply.new.self
    c.loop-step.invariant c.step-reply.ensures.event c.headline.ensures in
    subst (λ (rs : List StepReply). RunThrough Headline empty_world (c.loop-step.yielded ++ c.in-Some.step ∷ []) rs c.step-reply.new.self)
    (sym c.in_ok-push.ensures.items) h
