use Rattle.std.proofs.Common.{◌≡◌, ◌<◌}
use Rattle.fm_ctx.proofs.Words.{true, length, IfSome, stands, last_below, end_of}
use Rattle.fm_ctx.proofs.Lasts.{height}
use Rattle.fm_ctx.proofs.seats.Seats.above.Given as goal

abbrev pub invariant-loop-next : goal.invariant-loop-next
invariant-loop-next l = record {
  there : IfSome l.above (λ a. (l.slot < a) × (a < length l.self) × (stands l.self l.chain a ≡ true));
  next : l.next ≡ last_below (stands l.self l.chain) (end_of l.above (length l.self));
}

abbrev pub decreases-loop-next : goal.decreases-loop-next
decreases-loop-next l = height l.next
