use Rattle.fm_core.proofs.Words.{refl, subst, sym, IsSound}
use Rattle.fm_world.proofs.Words.{Collects}
use Rattle.fm_world.proofs.Requests.{collect_does}
use Rattle.fm_core.proofs.Operated.{collect_tied}
use Rattle.fm_core.proofs.state.State.collect.Goals as goal

pub returns-clause-event : goal.returns-clause-event
unfolding Collects
returns-clause-event c = rw (sym c.self.view_is, c.collect.ensures.after) (c.collect.ensures.reply, refl)

pub invariant_of-self : goal.invariant_of-self
invariant_of-self c = record {
  sound = (collect_does _ _ _ _ (returns-clause-event c)).sound (subst IsSound c.self.view_is c.self.invariant.sound);
  tied = collect_tied c.self.inside.contexts c.args.operation c.self.inside.flow c.collect.new.self c.collect.ensures.after c.self.invariant.tied;
}
