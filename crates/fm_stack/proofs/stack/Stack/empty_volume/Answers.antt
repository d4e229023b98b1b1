use Rattle.fm_stack.proofs.Dismounts.{volume_empties}
use Rattle.fm_stack.proofs.stack.Stack.empty_volume.Goals as goal

pub invariant_of-self : goal.invariant_of-self
invariant_of-self c = rw c.empty.ensures (volume_empties c.self.inside.orders.items c.args.volume c.self.invariant c.self.view_is).0

pub returns-clause-follows : goal.returns-clause-follows
returns-clause-follows c = rw c.empty.ensures (volume_empties c.self.inside.orders.items c.args.volume c.self.invariant c.self.view_is).1
