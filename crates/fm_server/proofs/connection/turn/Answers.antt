use Rattle.std.proofs.Common.{take}
use Rattle.fm_server.specs.Replies.{Says}
use Rattle.fm_server.proofs.Turns.{stands, waits_more}
use Rattle.fm_server.proofs.connection.turn.Goals as goal

pub returns-in-Piece-clause-goes : goal.returns-in-Piece-clause-goes
returns-in-Piece-clause-goes g c first read written waits =
    let took = c.take_whole.ensures.takes first waits.input waits.output
    (stands (Says g.E.Exec.operates g.E.Exec.controls) first c.args.exec.now read written c.args.decoder.now _ _ waits) in
    waits_more (Says g.E.Exec.operates g.E.Exec.controls) c.take_whole.result first c.args.exec.now c.take_whole.new.exec read written
    c.args.decoder.now _ _ c.take_whole.new.decoder _ _
    (take c.in-Piece.count c.receive.new.buffer) took.0 waits c.in-Piece.ensures.gives.2 took.1 took.2
