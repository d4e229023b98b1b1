use Rattle.fm_rundown.proofs.Words.{fresh_seat, IsAt}
use Rattle.std.proofs.Common.{◌≡◌, ◌+◌, All, length}
use Rattle.fm_rundown.specs.Seats.{view_of, IsSeatOf, seats_of}
use Rattle.fm_rundown.proofs.gate.RundownGate.every_seat.Given as goal

abbrev pub invariant-loop : goal.invariant-loop
invariant-loop l =
    IsAt l.self.table.shared.table_id l.first
    × (l.first.me.0 ≡ fresh_seat (l.first.me.0).to_make)
    × ((l.first.me.0).to_make + l.counter ≡ seats_of l.self)
    × (length l.all.items + 1 ≡ l.counter)
    × All (λ seat. IsSeatOf l.self seat) l.all.items
    × All (λ seat. view_of seat ≡ fresh_seat 0) l.all.items
