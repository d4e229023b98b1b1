use Rattle.fm_ctx.proofs.Words.{List, Option, length, refl, sym, ap, arith, Seat, stands}
use Rattle.fm_ctx.proofs.Lasts.{last_falls}
use Rattle.fm_ctx.proofs.Chains.{chained_as, led_by}
use Rattle.fm_ctx.proofs.Finding.{climbed, above_found, above_last}
use Rattle.fm_ctx.proofs.seats.Seats.above.Goals as goal

pub returns-then-place-slot : goal.returns-then-place-slot
returns-then-place-slot c =
    let so_far = c.loop-next.invariant in
    above_found (stands c.args.self.now c.args.chain) c.args.slot (length c.args.self.now) c.loop-next.above so_far.there so_far.next
    c.in-Some.place c.in-Some.is c.if-place-slot.true

pub index-next-requires-in-Some : goal.index-next-requires-in-Some
index-next-requires-in-Some c =
    let so_far = c.loop-next.invariant in
    let at = climbed (stands c.args.self.now c.args.chain) c.args.slot (length c.args.self.now) c.loop-next.above so_far.there
    so_far.next c.in-Some.place c.in-Some.is in
    omega (arith, at.0, ap (λ (s : List (Option Seat)). length s) c.self.view_is, c.self.invariant.chained.matched, c.self.inside.nexts.ok.0)

pub loop-next-smaller : goal.loop-next-smaller
loop-next-smaller c =
    let so_far = c.loop-next.invariant in
    let at = climbed (stands c.args.self.now c.args.chain) c.args.slot (length c.args.self.now) c.loop-next.above so_far.there
    so_far.next c.in-Some.place c.in-Some.is in
    let next = c.index-next-in-Some.result.now in
    last_falls (stands c.args.self.now c.args.chain) c.in-Some.place next c.loop-next.next c.in-Some.is
    (led_by c.args.chain c.in-Some.place next (chained_as refl (sym c.self.view_is) c.self.invariant.chained) at.1
    c.index-next-in-Some.ensures)

pub loop-next-preserved : goal.loop-next-preserved
loop-next-preserved c =
    let so_far = c.loop-next.invariant in
    let at = climbed (stands c.args.self.now c.args.chain) c.args.slot (length c.args.self.now) c.loop-next.above so_far.there
    so_far.next c.in-Some.place c.in-Some.is in
    record {
      there = (c.if-place-slot.false, at.0, at.1);
      next = led_by c.args.chain c.in-Some.place c.index-next-in-Some.result.now
          (chained_as refl (sym c.self.view_is) c.self.invariant.chained) at.1 c.index-next-in-Some.ensures;
    }

pub returns : goal.returns
returns c =
    let so_far = c.loop-next.invariant in
    above_last (stands c.args.self.now c.args.chain) c.args.slot (length c.args.self.now) c.loop-next.above so_far.there so_far.next c.in_default.is
