use Rattle.std.proofs.Common.{Some, refl}
use Rattle.kazdrin_c.proofs.host.SessionHost.change.Goals as goal

pub returns-in-Ok : goal.returns-in-Ok
returns-in-Ok c = (Some c.in-Ok.params, (c.in-Ok.ensures.named, c.change-put.result, c.change-put.ensures, c.outcome.ensures, refl))
