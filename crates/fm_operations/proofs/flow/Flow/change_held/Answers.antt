use Rattle.fm_operations.specs.Counts.{flight}
use Rattle.fm_operations.proofs.Words.{FlowRecord, Option, PreHeld, StandsAt, ap, changed_held, false, is_creating, is_spent, option_map, refl, sym, takes, true}
use Rattle.fm_operations.proofs.Words.{unwrap_or}
use Rattle.std.proofs.Common.{◌≡◌, ◌∙◌}
use Rattle.fm_operations.proofs.Flows.{uncounted, found, changed_some, kept_set, said_there, stands_some}
use Rattle.fm_operations.proofs.Follows.{follows_same}
use Rattle.fm_operations.proofs.Placing.{changed_says, changed_stays, sound_changed}
use Rattle.fm_operations.proofs.flow.Flow.change_held.Goals as goal

pub standing-place-requires : goal.standing-place-requires
standing-place-requires c = record {
  there = stands_some PreHeld c.args.number c.self.view_is c.deref.ensures.value c.requires.stage;
  ascending = rw c.deref.ensures.value c.self.invariant.0.ascending;
}

pub change_held-requires : goal.change_held-requires
change_held-requires c =
    let there = found c.args.number c.self.view_is (sym c.standing-place.ensures) c.deref.ensures.value refl
    c.as_mut.ensures.value c.index_mut.ensures.value in
    record {
      stage = said_there there (StandsAt PreHeld) c.requires.stage;
      fits = said_there there (λ (m : Option FlowRecord). unwrap_or (option_map (takes c.args.params) m) false ≡ true) c.requires.fits;
    }

pub invariant_of-self : goal.invariant_of-self
invariant_of-self c =
    let there = found c.args.number c.self.view_is (sym c.standing-place.ensures) c.deref.ensures.value refl
    c.as_mut.ensures.value c.index_mut.ensures.value in
    let d = c.as_mut.result.now in
    let p = c.args.params in
    let says = c.change_held.ensures in
    kept_set there c.self.invariant (changed_held p) says (λ r. changed_stays p r)
    (sound_changed p d (said_there there (StandsAt PreHeld) c.requires.stage)
    (said_there there (λ (m : Option FlowRecord). unwrap_or (option_map (takes p) m) false ≡ true) c.requires.fits))
    (λ h needed. changed_says is_spent p d (λ m kept. refl) ∙ needed)
    (uncounted c.self.inside.creates d c.change_held.new.self (ap is_creating says ∙ changed_says is_creating p d (λ m kept. refl)))
    (follows_same (λ j. ap (flight j) says ∙ changed_says (flight j) p d (λ m kept. refl)))

pub returns : goal.returns
returns c =
    changed_some (found c.args.number c.self.view_is (sym c.standing-place.ensures) c.deref.ensures.value refl
    c.as_mut.ensures.value c.index_mut.ensures.value) (changed_held c.args.params) c.change_held.ensures
