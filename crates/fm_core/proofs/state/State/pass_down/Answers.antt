use Rattle.fm_core.proofs.Words.{ComesDown, the_view, idle_there, Place, inl, refl, subst, sym, true, Below, World}
use Rattle.fm_core.proofs.Operated.{next_requires, within_at}
use Rattle.fm_core.proofs.Passes.{passed_down_hand, passed_down_state, passes_down}
use Rattle.fm_core.proofs.state.State.pass_down.Goals.{After-laws}
use Rattle.fm_core.proofs.state.State.pass_down.Goals as goal

-- what is asked, of the fields
comes : (c : After-laws) → ComesDown (the_view c.self.inside) c.args.worker c.args.operation c.args.instance
comes c = subst (λ (w : World). ComesDown w c.args.worker c.args.operation c.args.instance) (sym c.self.view_is) c.requires

pub pass_down-requires-clause-lies : goal.pass_down-requires-clause-lies
pass_down-requires-clause-lies c =
    let d = comes (goal.at.pass_down-requires-clause-lies c).After-laws in
    next_requires c.args.operation (Below.Instance c.args.instance true) d.operation c.self.invariant d.there (λ e. (d.next.lies, tt)) (inl d.next.stage)

pub end_callback-requires-clause-within : goal.end_callback-requires-clause-within
end_callback-requires-clause-within c =
    let d = comes (goal.at.end_callback-requires-clause-within c).After-laws in
    within_at c.args.worker Place.Idle c.self.invariant (idle_there _ c.args.worker d.idle)

pub invariant_of-self : goal.invariant_of-self
invariant_of-self c =
    passed_down_state c.args.worker c.args.operation c.args.instance c.args.number c.self.invariant refl c.laws.ensures.matched
    (comes (goal.at.invariant_of-self c).After-laws)
    c.self.view_is c.pass_down.ensures c.end_callback.ensures

pub returns-clause-event : goal.returns-clause-event
returns-clause-event c =
    passes_down c.args.worker c.args.operation c.args.instance c.args.number c.self.invariant refl c.laws.ensures.matched
    (comes (goal.at.returns-clause-event c).After-laws)
    c.self.view_is c.pass_down.ensures c.end_callback.ensures

pub returns-clause-hand : goal.returns-clause-hand
returns-clause-hand c =
    passed_down_hand c.args.worker c.args.operation c.args.instance c.args.number c.self.invariant refl c.laws.ensures.matched
    (comes (goal.at.returns-clause-hand c).After-laws)
    c.self.view_is c.pass_down.ensures c.end_callback.ensures
