use Rattle.fm_ctx.proofs.Words.{refl, sym, arith}
use Rattle.fm_ctx.proofs.Chains.{chained_as, chained_put}
use Rattle.fm_ctx.proofs.seats.Seats.put.Goals as goal

pub invariant_of-self : goal.invariant_of-self
invariant_of-self c = record {
  chained =
      rw (c.lead.ensures.firsts, c.lead.ensures.nexts, c.self.view_is)
      (chained_put c.chain-chain.result c.args.slot c.args.seat c.above-above.result c.after-next.result
      (chained_as refl (sym c.self.view_is) c.self.invariant.chained) c.chain-chain.ensures.within c.chain-chain.ensures.chain
      c.requires.within c.requires.free c.above-above.ensures c.after-next.ensures);
  nexts_fit = omega (arith, c.self.invariant.nexts_fit, c.lead.ensures.room);
  seats_fit = c.self.invariant.seats_fit;
}
