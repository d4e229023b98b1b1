use Rattle.std.proofs.Common.{ℕ, List}
use Rattle.std.specs.Io.KnownBytes.{Appends}
use Rattle.fm_server.specs.Replies.{Answered, Says}
use Rattle.fm_server.proofs.answering.do_all.Given as goal

abbrev pub invariant-loop-frame : goal.invariant-loop-frame
invariant-loop-frame g l =
    (output : List ℕ) × Appends (g.W.Sink.contents l.initial.sink) (g.W.Sink.contents l.sink) output
    × Answered (Says g.E.Exec.operates g.E.Exec.controls) l.initial.exec l.yielded output l.exec
    × (g.W.Sink.handed_on l.initial.sink → g.W.Sink.handed_on l.sink)
