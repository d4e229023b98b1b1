use Rattle.fm_stack.proofs.Unloads.{filter_empties}
use Rattle.fm_stack.proofs.stack.Stack.empty_filter.Goals as goal

pub invariant_of-self : goal.invariant_of-self
invariant_of-self c = rw c.set_phase.ensures (filter_empties c.self.inside.orders.items c.args.filter c.self.invariant c.self.view_is).0

pub returns-clause-follows : goal.returns-clause-follows
returns-clause-follows c = rw c.set_phase.ensures (filter_empties c.self.inside.orders.items c.args.filter c.self.invariant c.self.view_is).1
