use Rattle.std.proofs.Common.{subst}
use Rattle.fm_script.proofs.Handed.{pause_breaks, pauses_once}
use Rattle.fm_script.proofs.reading.turn.Goals as goal

pub returns-in-Ok : goal.returns-in-Ok
returns-in-Ok g c first read w =
    let rested = subst (λ r. g.L.Listener.pauses c.args.lines.now.listener r c.pause.new.self) c.in-Ok.is c.pause.ensures in
    c.take_read.ensures first read (pauses_once g.L.Listener.takes g.L.Listener.pauses first c.args.lines.now.listener c.pause.new.self read
    (g.R.Read.remaining c.args.reader.now) c.args.lines.now.line c.args.lines.now.count w rested)

pub returns-in-Err : goal.returns-in-Err
returns-in-Err g c first read w =
    let rested = subst (λ r. g.L.Listener.pauses c.args.lines.now.listener r c.pause.new.self) c.in-Err.is c.pause.ensures in
    pause_breaks g.L.Listener.takes g.L.Listener.pauses c.in-Err.end first c.args.lines.now.listener c.pause.new.self read
    (g.R.Read.remaining c.args.reader.now) c.args.lines.now.line c.args.lines.now.count w rested
