use Rattle.fm_core.proofs.Words.{IsTied, post_of, the_view, post_does, Place, Result, Some, refl, subst, sym, ◌≡◌, Data, data_fits, FlowRecord}
use Rattle.fm_core.proofs.Words.{post_returned_of, changed, PostRunning, IsSound, worker_at}
use Rattle.fm_world.proofs.Words.{PostReturns}
use Rattle.fm_core.proofs.Holding.{tied_ends}
use Rattle.fm_core.proofs.Operated.{Comes, comes, in_post, located, post_is, post_returns, post_tied, stands_from, within_at}
use Rattle.fm_core.proofs.state.State.post_data_returned.Goals.{After-post_returned}
use Rattle.fm_core.proofs.state.State.post_data_returned.Goals as goal

pub post_returned-requires : goal.post_returned-requires
post_returned-requires c =
    stands_from c.args.operation c.self.inside.flow PostRunning (in_post _ c.args.worker c.args.operation c.args.instance c.self.invariant.sound
    (located post_of (λ p. Place.Post p.0 p.1) c.args.worker (c.args.operation, c.args.instance) post_is c.self.view_is c.requires))

at : (c : After-post_returned) → worker_at (the_view c.self.inside).workers c.args.worker ≡ Some (Place.Post c.args.operation c.args.instance)
at c = located post_of (λ p. Place.Post p.0 p.1) c.args.worker (c.args.operation, c.args.instance) post_is c.self.view_is c.requires

-- the data fits, or it is strange
came : (c : After-post_returned) (answer : Result (Unit {0}) Data) → c.post_returned.result ≡ answer
    → Comes c.self.inside.flow c.args.operation (λ (r : FlowRecord). data_fits r.operation r.path c.args.lent)
    (post_returned_of c.args.verdict c.args.lent) c.args.lent answer c.post_returned.new.self
came c answer is =
    let there = in_post (the_view c.self.inside) c.args.worker c.args.operation c.args.instance c.self.invariant.sound (at c) in
    comes c.self.inside.flow c.args.operation there.0 _ _ c.args.lent c.post_returned.result answer c.post_returned.new.self there.1
    c.post_returned.ensures.reply c.post_returned.ensures.after is

pub returns-in-Err-clause-event : goal.returns-in-Err-clause-event
unfolding PostReturns
returns-in-Err-clause-event c =
    let here = (goal.at.returns-in-Err-clause-event c).After-post_returned in
    let strange = came here _ c.in-Err.is in
    rw (sym c.self.view_is, at here, strange.0, strange.1) (refl, refl)

pub invariant_of-self : goal.invariant_of-self
invariant_of-self c = record {
  sound = (post_does _ _ _ _ _ _ (returns-in-Err-clause-event c)).0.sound (subst IsSound c.self.view_is c.self.invariant.sound);
  tied = subst (IsTied c.self.inside.contexts) (sym (came (goal.at.invariant_of-self c).After-post_returned _ c.in-Err.is).1) c.self.invariant.tied;
}

pub end_callback-requires-clause-within : goal.end_callback-requires-clause-within
end_callback-requires-clause-within c = within_at c.args.worker _ c.self.invariant (at (goal.at.end_callback-requires-clause-within c).After-post_returned)

pub returns-clause-event : goal.returns-clause-event
returns-clause-event c =
    let here = (goal.at.returns-clause-event c).After-post_returned in
    post_returns c.args.worker c.args.operation c.args.instance c.args.verdict c.args.lent c.post_returned.new.self c.put.new.workers
    c.end_callback.new.contexts c.self.invariant c.self.view_is (at here)
    (came here _ c.in_default.is) c.put.ensures refl c.end_callback.ensures

pub invariant_of-self-2 : goal.invariant_of-self-2
invariant_of-self-2 c =
    let here = (goal.at.invariant_of-self-2 c).After-post_returned in
    record {
      sound = (post_does _ _ _ _ _ _ (returns-clause-event c)).0.sound (subst IsSound c.self.view_is c.self.invariant.sound);
      tied = subst (IsTied c.end_callback.new.contexts) (sym (came here _ c.in_default.is).1)
          (tied_ends c.self.inside.contexts c.end_callback.new.contexts c.args.worker.0 (changed c.args.operation (post_returned_of c.args.verdict c.args.lent)
          c.self.inside.flow) c.end_callback.ensures
          (post_tied c.args.worker c.args.operation c.args.instance c.args.verdict c.args.lent c.self.invariant (at here)));
    }
