use Rattle.fm_stack.proofs.Dismounts.{dismounts}
use Rattle.fm_stack.proofs.stack.Stack.start_dismount.Goals as goal

pub invariant_of-self : goal.invariant_of-self
invariant_of-self c = rw (c.set_phase.ensures, c.stop_on.ensures) (dismounts c.self.inside.orders.items c.args.volume c.self.invariant c.self.view_is).0

pub returns-clause-follows : goal.returns-clause-follows
returns-clause-follows c = rw (c.set_phase.ensures, c.stop_on.ensures) (dismounts c.self.inside.orders.items c.args.volume c.self.invariant c.self.view_is).1
