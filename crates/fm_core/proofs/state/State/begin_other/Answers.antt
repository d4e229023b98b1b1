use Rattle.fm_core.proofs.Words.{begin_does, None, subst, sym, ◌∙◌, Params, IsSound}
use Rattle.fm_world.proofs.Words.{Begins}
use Rattle.fm_core.proofs.Operated.{lists, begin_tied}
use Rattle.fm_core.proofs.state.State.begin_other.Goals as goal

pub returns : goal.returns
unfolding Begins
returns c =
    lists c.args.volume (Params.Other c.args.major c.args.number) c.begin.result c.begin.new.self c.self.view_is
    (rw c.is_full.ensures at (sym c.volume_refusal.ensures ∙ c.in_default.is))
    (rw c.births.ensures at c.begin.ensures)

pub invariant_of-self : goal.invariant_of-self
invariant_of-self c = record {
  sound = (begin_does _ _ _ _ (returns c)).0.sound (subst IsSound c.self.view_is c.self.invariant.sound);
  tied = begin_tied c.self.inside.contexts c.args.volume None None None (Params.Other c.args.major c.args.number) c.begin.result c.self.inside.flow
      c.begin.new.self c.births.result c.begin.ensures c.self.invariant.tied;
}
