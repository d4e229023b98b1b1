use Rattle.std.proofs.Common.{◌≡◌, ◌*◌, ◌≤◌, sum_by, take}
use Rattle.fm_rundown.specs.Seats.{passes_held}
use Rattle.fm_rundown.proofs.life.passes_of_all.Given as goal

abbrev pub invariant-loop-seat : goal.invariant-loop-seat
invariant-loop-seat l = (l.total ≡ sum_by passes_held (take l.seat-index l.seats)) × (l.total ≤ l.seat-index * 524280)
