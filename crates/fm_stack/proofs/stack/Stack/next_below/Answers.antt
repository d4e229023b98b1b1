use Rattle.fm_stack.proofs.Words.{StackWorld}
use Rattle.std.proofs.Common.{◌≡◌, ap}
use Rattle.std.proofs.lemmas.List.{take_rest}
use Rattle.fm_stack.proofs.Orders.{next_is, sits_once}
use Rattle.fm_stack.proofs.stack.Stack.next_below.Goals as goal

pub place_behind-place-requires : goal.place_behind-place-requires
place_behind-place-requires c = sits_once c.seats-seats.ensures

pub returns : goal.returns
returns c =
    let rows : c.self.inside.instances.items ≡ c.args.self.now.instances = ap (λ (w : StackWorld). w.instances) c.self.view_is in
    rw (c.next_visited.ensures, take_rest c.seats-seats.result.now c.place_behind-place.result, c.deref-2.ensures.value)
    (rw (c.place_behind-place.ensures.place, c.deref.ensures.value, rows)
    (next_is c.args.self.now c.args.volume c.args.cursor c.args.born c.args.operation c.seats-seats.result.now c.seats-seats.ensures))
