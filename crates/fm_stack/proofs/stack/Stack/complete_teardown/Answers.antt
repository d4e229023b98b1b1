use Rattle.std.proofs.Common.{◌∙◌, sym}
use Rattle.fm_stack.proofs.Teardowns.{completes}
use Rattle.fm_stack.proofs.stack.Stack.complete_teardown.Goals as goal

pub invariant_of-self : goal.invariant_of-self
invariant_of-self c = rw c.set_phase.ensures (completes c.self.inside.orders.items c.args.instance c.args.is_asked c.args.in_flight
    c.self.invariant c.self.view_is (sym c.complete_refusal.ensures ∙ c.in_default.is)).0

pub returns-clause-follows : goal.returns-clause-follows
returns-clause-follows c = rw c.set_phase.ensures (completes c.self.inside.orders.items c.args.instance c.args.is_asked
    c.args.in_flight c.self.invariant c.self.view_is (sym c.complete_refusal.ensures ∙ c.in_default.is)).1
