use Rattle.fm_core.proofs.Words.{the_view, refl}
use Rattle.fm_world.proofs.Owning.{register_does}
use Rattle.fm_world.specs.Events.{Registers}
use Rattle.fm_core.proofs.state.State.register.Goals as goal

pub invariant_of-self : goal.invariant_of-self
unfolding Registers
invariant_of-self c = record {
  sound = (register_does (the_view c.self.inside) c.args.name c.args.registration c.register.result _ (
    c.register.ensures.event,
    refl,
  )).sound c.self.invariant.sound;
  tied = c.self.invariant.tied;
}
