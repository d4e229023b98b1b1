use Rattle.fm_core.proofs.Words.{arith, the_view}
use Rattle.fm_world.proofs.Routines.{unfinished_few}
use Rattle.fm_core.proofs.state.State.unfinished_at.Goals as goal

pub overflow_add-result : goal.overflow_add-result
overflow_add-result c =
    omega (arith, c.in_flight.ensures, c.begun_by.ensures, unfinished_few (the_view c.self.inside) c.args.instance c.self.invariant.sound.under_way)

pub overflow_add-result-2 : goal.overflow_add-result-2
overflow_add-result-2 c =
    omega (
      arith,
      c.in_flight.ensures,
      c.begun_by.ensures,
      c.routines_at.ensures.event,
      unfinished_few (the_view c.self.inside) c.args.instance c.self.invariant.sound.under_way,
    )
