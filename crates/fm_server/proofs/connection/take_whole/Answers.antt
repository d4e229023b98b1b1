use Rattle.std.proofs.Common.{◌++◌}
use Rattle.fm_server.specs.Replies.{Says}
use Rattle.fm_server.proofs.Known.{appends_more}
use Rattle.fm_server.proofs.Pieces.{whole_more}
use Rattle.fm_server.proofs.connection.take_whole.Goals as goal

pub returns-in-Ok-clause-takes : goal.returns-in-Ok-clause-takes
returns-in-Ok-clause-takes g c first input before stands =
    let one = c.in-Ok.ensures.takes first input before stands in
    let two = c.tell_behind.ensures.tells in (
      one.0 ++ two.0,
      appends_more _ _ _ one.0 two.0 one.1 two.1,
      whole_more (Says g.E.Exec.operates g.E.Exec.controls) c.tell_behind.result first c.take_piece.new.exec c.take_piece.new.decoder
          (input ++ c.args.piece.now) before one.0
          two.0 one.2 two.2,
    )
