use Rattle.std.specs.Prelude.{All}
use Rattle.fm_queue.specs.Passes.{IsPassOf}
use Rattle.fm_socket.proofs.server.ServerShared.workers.Given as goal

abbrev pub invariant-workers : goal.invariant-workers
invariant-workers g l = (goal.iterator-workers g).can_next l.devices-iterator × (goal.iterator-workers g).is_finite l.devices-iterator
    × All (λ pass. IsPassOf l.self.queue.now pass) l.passes.items
