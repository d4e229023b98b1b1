use Rattle.fm_server.specs.Replies.{Says}
use Rattle.fm_server.proofs.Turns.{leaves_unread}
use Rattle.fm_server.proofs.connection.serve.Goals as goal

pub returns-in-Err-clause-leaves : goal.returns-in-Err-clause-leaves
returns-in-Err-clause-leaves g c = leaves_unread (Says g.E.Exec.operates g.E.Exec.controls) c.args.exec.now _ _
