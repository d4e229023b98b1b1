use Rattle.fm_core.proofs.Words.{the_view, refl}
use Rattle.fm_world.proofs.Owning.{mount_does}
use Rattle.fm_world.specs.Events.{Mounts}
use Rattle.fm_core.proofs.state.State.mount.Goals as goal

pub invariant_of-self : goal.invariant_of-self
unfolding Mounts
invariant_of-self c = record {
  sound = (mount_does (the_view c.self.inside) c.args.name c.mount.result _ (c.mount.ensures.event, refl)).sound c.self.invariant.sound;
  tied = c.self.invariant.tied;
}
