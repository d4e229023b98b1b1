use Rattle.std.proofs.Common.{◌≡◌, [], take, rules}
use Rattle.std.specs.Io.KnownBytes.{Consumes, IsAtEnd, Keeps}
use Rattle.fm_script.proofs.Handed.{end_read, fault_read, piece_read}
use Rattle.fm_script.proofs.reading.take_read.Goals as goal

pub returns-in-Ok-eq0 : goal.returns-in-Ok-eq0
returns-in-Ok-eq0 g c first read w =
    let consumes : Consumes (g.R.Read.remaining c.args.reader.now) (g.R.Read.remaining c.read.new.self) [] = search rules in
    let at_end : IsAtEnd (g.R.Read.remaining c.read.new.self) = search rules in
    end_read g.L.Listener.takes g.L.Listener.pauses c.take_last.result first c.args.lines.now.listener c.take_last.new.lines.listener read _ _
    c.args.lines.now.line _ c.args.lines.now.count _ w consumes at_end c.take_last.ensures

pub returns-in-Ok : goal.returns-in-Ok
returns-in-Ok g c first read w =
    let consumes : Consumes (g.R.Read.remaining c.args.reader.now) (g.R.Read.remaining c.read.new.self) (take c.in-Ok.count c.read.new.buf) = search rules in
    piece_read g.L.Listener.takes g.L.Listener.pauses c.take_more.result first c.args.lines.now.listener c.take_more.new.lines.listener read _ _
    c.args.lines.now.line _ _ c.args.lines.now.count _ w consumes c.take_more.ensures

pub returns-in-Err : goal.returns-in-Err
returns-in-Err g c first read w =
    let kept : Keeps (g.R.Read.remaining c.args.reader.now) (g.R.Read.remaining c.read.new.self) = search rules in
    fault_read g.L.Listener.takes g.L.Listener.pauses c.is_read_again.result first c.args.lines.now.listener read _ _ c.args.lines.now.line
    c.args.lines.now.count w kept c.is_read_again.ensures
