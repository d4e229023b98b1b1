use Rattle.fm_local.proofs.Words.{◌≡◌, length}
use Rattle.fm_local.proofs.queues.HandedOut.{Passed}
use Rattle.fm_local.proofs.parts.Parts.take_done.Given as goal

-- those that were passed over have no answer, and nothing but the queue changed
abbrev pub invariant-loop-operation : goal.invariant-loop-operation
invariant-loop-operation g l = Passed l.fn.self l.self.finished.items.items × (l.self ≡ record l.fn.self { finished = l.self.finished })

abbrev pub decreases-loop-operation : goal.decreases-loop-operation
decreases-loop-operation g l = length l.self.finished.items.items
