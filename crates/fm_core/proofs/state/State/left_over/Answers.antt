use Rattle.fm_core.proofs.Words.{arith, the_view}
use Rattle.fm_world.proofs.Routines.{left_few}
use Rattle.fm_core.proofs.state.State.left_over.Goals as goal

pub overflow_add-result : goal.overflow_add-result
overflow_add-result c =
    omega (arith, c.open_of.ensures, c.begun_by.ensures, left_few (the_view c.self.inside) c.args.instance c.self.invariant.sound)
