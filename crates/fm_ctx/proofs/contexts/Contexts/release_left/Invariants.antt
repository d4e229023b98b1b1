use Rattle.fm_ctx.proofs.Words.{length, hand_of}
use Rattle.fm_ctx.proofs.Leaving.{LeavesSome}
use Rattle.fm_ctx.proofs.contexts.Contexts.release_left.Given as goal

abbrev pub invariant-loop-id : goal.invariant-loop-id
invariant-loop-id l = LeavesSome l.initial.self l.self l.worker.0

abbrev pub decreases-loop-id : goal.decreases-loop-id
decreases-loop-id l = length (hand_of l.self.table.hands l.worker.0)
