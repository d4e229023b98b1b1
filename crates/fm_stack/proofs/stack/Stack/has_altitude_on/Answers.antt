use Rattle.fm_stack.proofs.Words.{StackWorld, has_altitude_on, is_live_on, and_parts}
use Rattle.std.proofs.Common.{◌≡◌, ap}
use Rattle.fm_stack.proofs.Orders.{any_seated}
use Rattle.fm_stack.proofs.stack.Stack.has_altitude_on.Goals as goal

pub returns : goal.returns
returns c =
    let rows : c.self.inside.instances.items ≡ c.args.self.now.instances = ap (λ (w : StackWorld). w.instances) c.self.view_is in
    rw (c.has_altitude_on.ensures, c.deref.ensures.value, rows)
    (any_seated c.seats.ensures (has_altitude_on c.args.volume c.args.altitude.now) (λ row has. (and_parts (is_live_on c.args.volume row) _ has).0))
