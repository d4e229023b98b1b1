use Rattle.fm_core.proofs.Words.{the_view, [], ap, false, not, refl, subst, sym, ◌∷◌, ◌∙◌, first_of, told_there, Status, IsSound}
use Rattle.std.proofs.Common.{ap₂}
unfoldable use Rattle.fm_world.specs.Changes.{ChangesHeld}
use Rattle.fm_world.proofs.Changing.{change_held_does}
use Rattle.fm_core.proofs.Resumed.{by_that, change_tied, placed_so, stands_pre_held}
use Rattle.fm_operations.specs.Steps.{takes}
use Rattle.fm_operations.specs.declared.hold.Hold.TheVariants as hold
use Rattle.fm_core.proofs.state.State.change_held.Goals as goal

pub change_held-requires : goal.change_held-requires
change_held-requires c =
    let some = c.in-Some-held_record.ensures.some in
    record {
      stage = stands_pre_held c.self.inside.flow c.args.operation c.in-Some.instance c.in-Some-held_record.record.now
          c.self.invariant.sound.under_way.flow some;
      fits = told_there (takes c.args.params) false c.args.operation c.self.inside.flow c.in-Some-held_record.record.now some.0
          ∙ sym c.takes.ensures ∙ c.if-not-takes.false;
    }

pub returns-clause-event : goal.returns-clause-event
unfolding ChangesHeld
returns-clause-event c =
    let some = c.in-Some-held_record.ensures.some in
    let place = placed_so c.args.worker c.in-Some.instance c.instance_of.result c.self.view_is c.instance_of.ensures c.in-Some.is in
    let held = by_that (the_view c.self.inside) hold.Pre c.args.operation c.in-Some.instance c.in-Some-held_record.record.now some in
    let fits = told_there (takes c.args.params) false c.args.operation c.self.inside.flow c.in-Some-held_record.record.now some.0
    ∙ sym c.takes.ensures ∙ c.if-not-takes.false in
    rw (sym c.self.view_is, place, c.change_held.ensures)
    (ap₂ (λ a b. first_of ((not a, Status.NotPended) ∷ (not b, Status.BadRequest) ∷ [])) held fits, refl)

pub invariant_of-self : goal.invariant_of-self
invariant_of-self c = record {
  sound = (change_held_does _ _ _ _ _ _ (returns-clause-event c)).sound (subst IsSound c.self.view_is c.self.invariant.sound);
  tied = change_tied c.args.operation c.in-Some.instance c.args.params c.change_held.new.self c.self.invariant
      (by_that (the_view c.self.inside) hold.Pre c.args.operation c.in-Some.instance c.in-Some-held_record.record.now
      c.in-Some-held_record.ensures.some) c.change_held.ensures;
}
