use Rattle.std.proofs.Common.{Some}
use Rattle.kazdrin_c.specs.Calls.{bytes_given}
use Rattle.kazdrin_c.proofs.Puts.{return_given}
use Rattle.kazdrin_c.proofs.host.SessionHost.based.Goals as goal

pub returns-in-Ok : goal.returns-in-Ok
returns-in-Ok c =
    let bytes = bytes_given c.args.event.now c.args.bytes.now in
    let returns = return_given c.args.event.now c.in-Ok.given.status c.in-Ok.given.bytes bytes c.args.self.now c.return_answer.result
    c.return_answer.new.self in
    (Some c.in-Ok.given.status, (c.in-Ok.ensures.status, returns c.in-Ok.ensures.bytes c.return_answer.ensures))
