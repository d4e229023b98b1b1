use Rattle.fm_server.specs.Replies.{Says}
use Rattle.fm_server.proofs.Known.{consumes_nothing}
use Rattle.fm_server.proofs.Turns.{leaves_fault}
use Rattle.fm_server.proofs.connection.run.Goals as goal

pub returns-in-Err-clause-leaves : goal.returns-in-Err-clause-leaves
returns-in-Err-clause-leaves g c first read written waits = c.in-Err.ensures.goes first read written (c.loop.invariant.waits first read written waits)

pub returns-clause-leaves : goal.returns-clause-leaves
returns-clause-leaves g c first read written waits =
    leaves_fault (Says g.E.Exec.operates g.E.Exec.controls) first c.loop.exec read written c.loop.decoder _ _ _
    (c.loop.invariant.waits first read written waits)
    (consumes_nothing (g.R.Source.remaining c.loop.source))
