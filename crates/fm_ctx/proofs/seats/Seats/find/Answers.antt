use Rattle.fm_ctx.proofs.Words.{List, Option, None, length, refl, sym, ap, arith, Seat, chain_of, is_seat, stands}
use Rattle.fm_ctx.proofs.Lasts.{last_falls}
use Rattle.fm_ctx.proofs.Chains.{chained_as, led_by}
use Rattle.fm_ctx.proofs.Finding.{position_at, passed_slot, passed_within, passed_more, passed_all}
use Rattle.fm_ctx.proofs.seats.Seats.find.Goals as goal

pub has-requires : goal.has-requires
has-requires c = passed_within c.in-Some.slot c.loop-next.invariant c.in-Some.is

pub returns-then-has : goal.returns-then-has
returns-then-has c =
    position_at (is_seat c.args.seat) c.args.self.now c.in-Some.slot None c.requires
    (passed_within c.in-Some.slot c.loop-next.invariant c.in-Some.is) (sym c.if-has.ensures)

pub index-next-requires-in-Some : goal.index-next-requires-in-Some
index-next-requires-in-Some c =
    omega (
      arith,
      passed_within c.in-Some.slot c.loop-next.invariant c.in-Some.is,
      ap (λ (s : List (Option Seat)). length s) c.self.view_is,
      c.self.invariant.chained.matched,
      c.self.inside.nexts.ok.0,
    )

pub loop-next-smaller : goal.loop-next-smaller
loop-next-smaller c =
    let chain = chain_of c.args.seat in
    let has = (passed_slot c.in-Some.slot c.loop-next.invariant c.in-Some.is).passes in
    let next = c.index-next-in-Some.result.now in
    last_falls (stands c.args.self.now chain) c.in-Some.slot next c.loop-next.next c.in-Some.is
    (led_by chain c.in-Some.slot next (chained_as refl (sym c.self.view_is) c.self.invariant.chained) has c.index-next-in-Some.ensures)

pub loop-next-preserved : goal.loop-next-preserved
loop-next-preserved c =
    let has = (passed_slot c.in-Some.slot c.loop-next.invariant c.in-Some.is).passes in
    let next = c.index-next-in-Some.result.now in
    passed_more c.in-Some.slot next c.loop-next.invariant c.in-Some.is (sym c.if-has.ensures)
    (led_by (chain_of c.args.seat) c.in-Some.slot next (chained_as refl (sym c.self.view_is) c.self.invariant.chained) has
    c.index-next-in-Some.ensures)

pub returns : goal.returns
returns c = passed_all c.loop-next.invariant c.in_default.is
