use Rattle.fm_ctx.proofs.Lasts.{height}
use Rattle.fm_ctx.proofs.Finding.{IsPassed}
use Rattle.fm_ctx.proofs.seats.Seats.find.Given as goal

abbrev pub invariant-loop-next : goal.invariant-loop-next
invariant-loop-next l = IsPassed l.self l.seat l.next

abbrev pub decreases-loop-next : goal.decreases-loop-next
decreases-loop-next l = height l.next
