use Rattle.fm_core.proofs.Words.{IsTied, drain_of, leaves_alike, post_does, Place, refl, subst, sym, drain_returned_of, changed, InDrain, IsSound}
use Rattle.fm_world.proofs.Words.{PostReturns}
use Rattle.fm_core.proofs.Holding.{tied_ends}
use Rattle.fm_core.proofs.Operated.{drain_is, drain_tied, in_drain, located, stands_from, within_at}
use Rattle.fm_core.proofs.state.State.drain_returned.Goals as goal

pub drain_returned-requires : goal.drain_returned-requires
drain_returned-requires c =
    stands_from c.args.operation c.self.inside.flow (InDrain c.args.instance)
    (in_drain _ c.args.worker c.args.operation c.args.instance c.self.invariant.sound (located drain_of (λ p. Place.Drain p.0 p.1) c.args.worker
    (c.args.operation, c.args.instance) drain_is c.self.view_is c.requires))

pub end_callback-requires-clause-within : goal.end_callback-requires-clause-within
end_callback-requires-clause-within c =
    within_at c.args.worker _ c.self.invariant (located drain_of (λ p. Place.Drain p.0 p.1) c.args.worker (c.args.operation, c.args.instance) drain_is
    c.self.view_is c.requires)

pub returns : goal.returns
unfolding PostReturns
returns c =
    let at = located drain_of (λ p. Place.Drain p.0 p.1) c.args.worker (c.args.operation, c.args.instance) drain_is c.self.view_is c.requires in
    rw (sym c.self.view_is, at, c.put.ensures, c.drain_returned.ensures)
    (refl, (leaves_alike (drain_tied c.args.worker c.args.operation c.args.instance c.self.invariant at) c.end_callback.ensures.leaves, refl))

pub invariant_of-self : goal.invariant_of-self
invariant_of-self c = record {
  sound = (post_does _ _ _ _ _ _ (returns c)).0.sound (subst IsSound c.self.view_is c.self.invariant.sound);
  tied = subst (IsTied c.end_callback.new.contexts) (sym c.drain_returned.ensures)
      (tied_ends c.self.inside.contexts c.end_callback.new.contexts c.args.worker.0 (changed c.args.operation (drain_returned_of c.args.instance)
      c.self.inside.flow) c.end_callback.ensures
      (drain_tied c.args.worker c.args.operation c.args.instance c.self.invariant (located drain_of (λ p. Place.Drain p.0 p.1) c.args.worker
      (c.args.operation, c.args.instance) drain_is c.self.view_is c.requires)));
}
