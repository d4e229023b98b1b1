use Rattle.std.specs.Prelude.{All}
use Rattle.fm_queue.specs.Passes.{IsPassOf}
use Rattle.fm_rundown.specs.Seats.{IsSeatOf}
use Rattle.fm_socket.proofs.server.ServerShared.connections.Given as goal

abbrev pub invariant-connections : goal.invariant-connections
invariant-connections g l =
    (goal.iterator-connections g).can_next l.devices-iterator × (goal.iterator-connections g).is_finite l.devices-iterator
    × All (λ pass. IsPassOf l.self.queue.now pass) l.passes.items × All (λ seat. IsSeatOf l.self.rundown.now seat) l.seats.items
