use Rattle.fm_stack.proofs.Kept.{refuses}
use Rattle.fm_stack.proofs.stack.Stack.refuse.Goals as goal

pub invariant_of-self : goal.invariant_of-self
invariant_of-self c = rw c.set_phase.ensures (refuses c.self.inside.orders.items c.args.instance c.self.invariant c.self.view_is c.requires).0

pub returns-clause-follows : goal.returns-clause-follows
returns-clause-follows c = rw c.set_phase.ensures (refuses c.self.inside.orders.items c.args.instance c.self.invariant c.self.view_is c.requires).1
