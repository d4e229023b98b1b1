use Rattle.std.proofs.Common.{◌∙◌}
use Rattle.fm_ctx.proofs.Words.{List, Option, None, ap, arith, get_or, refl, sym, get_or_default, Seat}
use Rattle.fm_ctx.proofs.Chains.{chained_as, chained_taken}
use Rattle.fm_ctx.proofs.seats.Seats.take.Goals as goal

pub invariant_of-self : goal.invariant_of-self
invariant_of-self c =
    let read = get_or_default c.args.self.now c.args.slot None c.index.result.now c.requires
    ∙ sym (c.index.ensures ∙ ap (λ (s : List (Option Seat)). get_or s c.args.slot c.index.result.now) c.self.view_is) in
    record {
      chained =
          rw (c.lead.ensures.firsts, c.lead.ensures.nexts, c.self.view_is)
          (chained_taken c.chain-chain.result c.args.slot c.in-Some.seat c.above-above.result c.index-next.result.now
          (chained_as refl (sym c.self.view_is) c.self.invariant.chained) c.chain-chain.ensures.within c.chain-chain.ensures.chain
          (read ∙ c.in-Some.is) c.above-above.ensures c.index-next.ensures);
      nexts_fit = omega (arith, c.self.invariant.nexts_fit, c.lead.ensures.room);
      seats_fit = c.self.invariant.seats_fit;
    }
