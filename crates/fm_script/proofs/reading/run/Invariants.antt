use Rattle.std.proofs.Common.{◌<◌, Option, List, ℕ, length}
use Rattle.fm_script.specs.Listening.{Waits}
use Rattle.fm_script.proofs.reading.run.Given as goal

-- whatever was read before, it goes on
abbrev pub invariant-loop : goal.invariant-loop
invariant-loop g l = record {
  waits : (first : g.row.L.Denot) (read : Option (List ℕ))
      → Waits g.L.Listener.takes g.L.Listener.pauses first read (g.R.Read.remaining l.fn.reader) l.fn.lines.line l.fn.lines.count l.fn.lines.listener
      → Waits g.L.Listener.takes g.L.Listener.pauses first read (g.R.Read.remaining l.reader) l.lines.line l.lines.count l.lines.listener;
  room : 0 < length l.buffer;
}
