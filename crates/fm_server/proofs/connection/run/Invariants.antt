use Rattle.std.proofs.Common.{◌≤◌, ◌<◌, ◌+◌, Option, List, ℕ, length}
use Rattle.fm_server.specs.Replies.{Says}
use Rattle.fm_server.specs.Connections.{Waits}
use Rattle.fm_server.proofs.connection.run.Given as goal

-- whatever the connection was before, it still waits
abbrev pub invariant-loop : goal.invariant-loop
invariant-loop g l = record {
  waits : (first : g.row.E.Denot) (read written : Option (List ℕ))
      → Waits (Says g.E.Exec.operates g.E.Exec.controls) first read written l.fn.decoder (g.R.Source.remaining l.fn.source)
      (g.W.Sink.contents l.fn.sink) l.fn.exec
      → Waits (Says g.E.Exec.operates g.E.Exec.controls) first read written l.decoder (g.R.Source.remaining l.source) (g.W.Sink.contents l.sink) l.exec;
  handed : g.W.Sink.handed_on l.fn.sink → g.W.Sink.handed_on l.sink;
  room : 0 < length l.buffer;
  counted : g.R.Source.reads l.fn.source + l.counter ≤ g.R.Source.reads l.source;
}
