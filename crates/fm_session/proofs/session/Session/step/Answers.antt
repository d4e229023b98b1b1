use Rattle.std.proofs.Common.{subst}
use Rattle.fm_world.specs.Steps.{Steps}
use Rattle.fm_session.proofs.session.Session.step.Goals as goal

pub returns-clause-event : goal.returns-clause-event
returns-clause-event c = subst (λ s. Steps s.world c.args.step c.step.result c.step.new.self) c.self.view_is c.step.ensures.event
