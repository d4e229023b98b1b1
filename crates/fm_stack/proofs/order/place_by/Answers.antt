use Rattle.std.proofs.Common.{◌≡◌, length, position, slice_get, Some, refl, sym}
use Rattle.std.proofs.lemmas.Bool.{ltb-true}
use Rattle.std.proofs.lemmas.Option.{slice_get_read}
use Rattle.fm_stack.specs.Orders.{is_seat_of}
use Rattle.fm_stack.proofs.Orders.{found_there}
use Rattle.fm_stack.proofs.order.place_by.Goals as goal

pub returns-then-seat-instance : goal.returns-then-seat-instance
returns-then-seat-instance c =
    let seats = c.args.seats.now in
    let seat = c.in-Some.seat.now in
    let there : slice_get seats c.args.guess ≡ Some seat =
    slice_get_read seats (length seats) c.args.guess seat refl (ltb-true c.args.guess (length seats) (sym c.in-Some.ensures.lookup.0))
    c.in-Some.ensures.lookup.1 in
    sym (found_there seats c.requires c.args.instance c.args.guess seat there c.if-seat-instance.true (position (is_seat_of c.args.instance) seats) refl)
