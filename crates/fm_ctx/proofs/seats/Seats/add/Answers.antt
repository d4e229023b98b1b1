use Rattle.fm_ctx.proofs.Words.{length, ap, arith, List, Option, Seat}
use Rattle.fm_ctx.proofs.Chains.{chained_as, chained_more}
use Rattle.fm_ctx.proofs.seats.Seats.add.Goals as goal

pub push_reserved-requires : goal.push_reserved-requires
push_reserved-requires c =
    let s = c.self.invariant in
    omega (arith, c.requires, s.nexts_fit, s.chained.matched, c.self.inside.nexts.ok.0, ap (λ (seats : List (Option Seat)). length seats) c.self.view_is)

pub push_reserved-requires-2 : goal.push_reserved-requires-2
push_reserved-requires-2 c =
    omega (arith, c.requires, c.self.invariant.seats_fit, c.self.inside.seats.ok.0, ap (λ (seats : List (Option Seat)). length seats) c.self.view_is)

pub invariant_of-self : goal.invariant_of-self
invariant_of-self c =
    let s = c.self.invariant in
    record {
      chained = chained_as c.push_reserved.ensures.items c.push_reserved-2.ensures.items (chained_more s.chained);
      nexts_fit = omega (arith, s.nexts_fit, c.push_reserved.ensures.capacity);
      seats_fit = omega (arith, s.seats_fit, c.push_reserved-2.ensures.capacity);
    }
