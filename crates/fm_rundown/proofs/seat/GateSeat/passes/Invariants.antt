use Rattle.std.proofs.Common.{◌≡◌, ◌*◌, ◌≤◌, sum, take}
use Rattle.fm_rundown.proofs.seat.GateSeat.passes.Given as goal

abbrev pub invariant-loop-count : goal.invariant-loop-count
invariant-loop-count l = (l.total ≡ sum (take l.count-index l.self.held)) × (l.total ≤ l.count-index * 65535)
