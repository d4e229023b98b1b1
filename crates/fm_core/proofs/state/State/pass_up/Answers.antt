use Rattle.fm_core.proofs.Words.{ComesUp, the_view, refl, subst, sym, World}
use Rattle.fm_core.proofs.Passes.{passed_up_hand, passed_up_state, passes_up}
use Rattle.fm_core.proofs.state.State.pass_up.Goals.{After-laws}
use Rattle.fm_core.proofs.state.State.pass_up.Goals as goal

comes : (c : After-laws) → ComesUp (the_view c.self.inside) c.args.worker c.args.operation c.args.ask
comes c = subst (λ (w : World). ComesUp w c.args.worker c.args.operation c.args.ask) (sym c.self.view_is) c.requires

pub invariant_of-self : goal.invariant_of-self
invariant_of-self c =
    passed_up_state c.args.worker c.args.operation c.args.ask c.self.invariant refl c.laws.ensures.matched (comes (goal.at.invariant_of-self c).After-laws)
    c.self.view_is c.pass_up.ensures c.end_callback.ensures

pub returns-clause-event : goal.returns-clause-event
returns-clause-event c =
    passes_up c.args.worker c.args.operation c.args.ask c.self.invariant refl c.laws.ensures.matched (comes (goal.at.returns-clause-event c).After-laws)
    c.self.view_is c.pass_up.ensures c.end_callback.ensures

pub returns-clause-hand : goal.returns-clause-hand
returns-clause-hand c =
    passed_up_hand c.args.worker c.args.operation c.args.ask c.self.invariant refl c.laws.ensures.matched (comes (goal.at.returns-clause-hand c).After-laws)
    c.self.view_is c.pass_up.ensures c.end_callback.ensures
