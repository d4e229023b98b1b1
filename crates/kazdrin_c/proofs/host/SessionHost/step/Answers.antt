use Rattle.std.proofs.Common.{Some}
use Rattle.kazdrin_c.proofs.host.SessionHost.step.Goals as goal

pub returns-in-Ok : goal.returns-in-Ok
returns-in-Ok c = (Some c.in-Ok.step, (c.in-Ok.ensures.named, c.make.ensures))
