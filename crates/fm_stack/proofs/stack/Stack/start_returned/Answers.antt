use Rattle.fm_stack.proofs.Teardowns.{start_ends}
use Rattle.fm_stack.proofs.stack.Stack.start_returned.Goals as goal

pub invariant_of-self : goal.invariant_of-self
invariant_of-self c = rw c.set_start.ensures (start_ends c.self.inside.orders.items c.args.instance c.self.invariant c.self.view_is).0

pub returns-clause-follows : goal.returns-clause-follows
returns-clause-follows c = rw c.set_start.ensures (start_ends c.self.inside.orders.items c.args.instance c.self.invariant c.self.view_is).1
