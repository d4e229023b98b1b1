use Rattle.fm_server.specs.Replies.{Says}
use Rattle.fm_server.proofs.Turns.{waits_first}
use Rattle.fm_server.proofs.connection.serve_by.Goals as goal

pub returns-clause-leaves : goal.returns-clause-leaves
returns-clause-leaves g c =
    c.run.ensures.leaves c.args.exec.now (g.R.Source.remaining c.args.source.now) (g.W.Sink.contents c.args.sink.now)
    (waits_first (Says g.E.Exec.operates g.E.Exec.controls) c.args.exec.now _ (g.R.Source.remaining c.args.source.now)
    (g.W.Sink.contents c.args.sink.now) c.new-decoder.ensures)
