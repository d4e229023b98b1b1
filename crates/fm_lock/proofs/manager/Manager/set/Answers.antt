use Rattle.std.proofs.Common.{arith, ◌+◌, ◌≡◌}
use Rattle.fm_lock.proofs.AnswerKinds.{set_held}
use Rattle.fm_lock.proofs.manager.Manager.set.Goals as goal
use Rattle.fm_world.specs.Hands.{given_by_set}
use Rattle.fm_world.specs.declared.step.Step.TheVariants as step

-- src/calls.rt:202:5
pub returns-clause-held : goal.returns-clause-held
returns-clause-held g c =
    set_held (step.Set c.worker-worker.result c.args.context c.args.mode c.args.wants_old) (λ r before after. after ≡ before + given_by_set r)
    c.args.hand.now c.step.result c.set_in.result c.step.new.hand (λ answer h. h) (λ n m same. omega (arith, same)) c.step.ensures.held c.set_in.ensures
