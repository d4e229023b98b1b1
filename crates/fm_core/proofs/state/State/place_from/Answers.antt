use Rattle.fm_core.proofs.Operated.{placed_state}
use Rattle.fm_core.proofs.state.State.place_from.Goals as goal

pub invariant_of-self : goal.invariant_of-self
invariant_of-self c =
    placed_state c.args.operation c.args.from c.place_below.new.self c.self.invariant c.self.view_is c.requires
    (rw (c.born_from-born.ensures, c.births.ensures, c.asker_of.ensures) at c.place_below.ensures)
