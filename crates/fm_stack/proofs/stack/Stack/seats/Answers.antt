use Rattle.fm_stack.proofs.Keeping.{order_at}
use Rattle.fm_stack.proofs.stack.Stack.seats.Goals as goal

pub returns : goal.returns
returns c = rw (← c.self.view_is, c.seats_at.ensures, c.deref.ensures.value) (order_at _ _ c.args.volume c.self.invariant)
