use Rattle.std.proofs.Common.{◌≡◌, [], rules, subst}
use Rattle.fm_server.specs.Replies.{Says}
use Rattle.fm_server.specs.Connections.{DoesAll, TellsFault}
use Rattle.fm_server.specs.declared.serve_end.ServeEnd.TheVariants.{ReadFault}
use Rattle.fm_server.proofs.Known.{appends_nothing}
use Rattle.fm_server.proofs.Pieces.{takes_fault, takes_frames, takes_nothing}
use Rattle.fm_server.proofs.connection.take_piece.Goals as goal

pub returns-in-Ok-clause-takes : goal.returns-in-Ok-clause-takes
returns-in-Ok-clause-takes g c first input before stands =
    let done = c.do_all.ensures.does in (
      done.0,
      done.1,
      takes_frames (Says g.E.Exec.operates g.E.Exec.controls) c.do_all.result first c.args.exec.now c.do_all.new.exec
          c.args.decoder.now c.feed.new.self input before
          c.args.piece.now done.0 c.in-Ok.frames.items stands c.in-Ok.ensures.ok done.2,
    )

pub returns-in-Ok-clause-never : goal.returns-in-Ok-clause-never
returns-in-Ok-clause-never g c is =
    let done = c.do_all.ensures.does in
    subst (λ r. DoesAll (Says g.E.Exec.operates g.E.Exec.controls) r c.args.exec.now c.in-Ok.frames.items done.0 c.do_all.new.exec) is done.2

pub returns-in-Err-BadRequest-clause-takes : goal.returns-in-Err-BadRequest-clause-takes
returns-in-Err-BadRequest-clause-takes g c first input before stands =
    let told = c.tell_fault.ensures.tells in (
      told.0,
      told.1,
      takes_fault (Says g.E.Exec.operates g.E.Exec.controls) c.tell_fault.result first c.args.exec.now c.args.decoder.now input before
          c.args.piece.now told.0 stands
          (c.feed.ensures.refused.0 (search rules)) told.2,
    )

pub returns-in-Err-BadRequest-clause-never : goal.returns-in-Err-BadRequest-clause-never
returns-in-Err-BadRequest-clause-never g c is =
    let told = c.tell_fault.ensures.tells in
    let same : c.tell_fault.result ≡ ReadFault = cc in
    subst (λ end. TellsFault end told.0) same told.2

pub returns-in-Err-clause-takes : goal.returns-in-Err-clause-takes
returns-in-Err-clause-takes g c first input before stands = (
  [],
  appends_nothing _,
  takes_nothing (Says g.E.Exec.operates g.E.Exec.controls) first c.args.exec.now c.args.decoder.now input
      before c.args.piece.now stands,
)
