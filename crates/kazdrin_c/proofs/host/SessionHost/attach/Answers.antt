use Rattle.std.proofs.Common.{Some, ap}
use Rattle.kazdrin_c.proofs.host.SessionHost.attach.Goals as goal

pub returns-in-Ok : goal.returns-in-Ok
returns-in-Ok c = (Some c.in-Ok.step, (ap Some c.in-Ok.ensures.named, c.make.ensures))
