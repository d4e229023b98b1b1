use Rattle.std.proofs.Common.{◌∙◌, sym}
use Rattle.fm_stack.proofs.Teardowns.{stops}
use Rattle.fm_stack.proofs.stack.Stack.query_returned.Goals as goal

pub invariant_of-self : goal.invariant_of-self
invariant_of-self c = rw c.set_phase.ensures (stops c.self.inside.orders.items c.args.instance c.args.allow c.self.invariant
    c.self.view_is (sym c.query_refusal.ensures ∙ c.in_default.is)).0

pub returns-clause-follows : goal.returns-clause-follows
returns-clause-follows c = rw c.set_phase.ensures (stops c.self.inside.orders.items c.args.instance c.args.allow c.self.invariant
    c.self.view_is (sym c.query_refusal.ensures ∙ c.in_default.is)).1
