use Rattle.std.proofs.Common.{◌≡◌, ◌++◌, List, ℕ, length}
use Rattle.fm_script.specs.Listening.{Stands}
use Rattle.fm_script.proofs.reading.Lines.take.Given as goal

-- what was taken of the piece stands after any input
abbrev pub invariant-loop-rest : goal.invariant-loop-rest
invariant-loop-rest g l = record {
  taken : List ℕ;
  parts : l.fn.piece ≡ taken ++ l.rest;
  stands : (first : g.row.L.Denot) (input : List ℕ)
      → Stands g.L.Listener.takes g.L.Listener.pauses first input l.fn.self.line l.fn.self.count l.fn.self.listener
      → Stands g.L.Listener.takes g.L.Listener.pauses first (input ++ taken) l.self.line l.self.count l.self.listener;
}

abbrev pub decreases-loop-rest : goal.decreases-loop-rest
decreases-loop-rest g l = length l.rest
