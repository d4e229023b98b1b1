use Rattle.fm_ctx.proofs.Sweeping.{SweptDown}
use Rattle.fm_ctx.proofs.Lasts.{height}
use Rattle.fm_ctx.proofs.contexts.Contexts.unlink_object.Given as goal

abbrev pub invariant-loop-next : goal.invariant-loop-next
invariant-loop-next l = SweptDown l.object l.initial.self l.self l.next

abbrev pub decreases-loop-next : goal.decreases-loop-next
decreases-loop-next l = height l.next
