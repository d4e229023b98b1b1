use Rattle.fm_operations.specs.Counts.{flight}
use Rattle.fm_operations.proofs.Words.{refl, sym, ap, subst, is_creating, operation_at, placed, true}
use Rattle.std.proofs.Common.{◌≡◌, is_some}
use Rattle.fm_operations.proofs.Flows.{uncounted, found, changed_some, kept_set}
use Rattle.fm_operations.proofs.Follows.{follows_same}
use Rattle.fm_operations.proofs.Soundness.{stays_so}
use Rattle.fm_operations.proofs.Requests.{sound_placed}
use Rattle.fm_operations.proofs.flow.Flow.place_below.Goals as goal

pub standing-place-requires : goal.standing-place-requires
standing-place-requires c = record {
  there = rw c.deref.ensures.value (subst (λ t. is_some (operation_at c.args.number t) ≡ true) (sym c.self.view_is) c.requires);
  ascending = rw c.deref.ensures.value c.self.invariant.0.ascending;
}

pub invariant_of-self : goal.invariant_of-self
invariant_of-self c =
    let there = found c.args.number c.self.view_is (sym c.standing-place.ensures) c.deref.ensures.value refl
    c.as_mut.ensures.value c.index_mut.ensures.value in
    kept_set there c.self.invariant (placed c.args.below c.args.born) c.place_below.ensures (λ r. stays_so refl refl)
    (sound_placed c.args.below c.args.born c.as_mut.result.now) (λ h needed. needed)
    (uncounted c.self.inside.creates c.as_mut.result.now c.place_below.new.self (ap is_creating c.place_below.ensures))
    (follows_same (λ j. ap (flight j) c.place_below.ensures))

pub returns : goal.returns
returns c =
    changed_some (found c.args.number c.self.view_is (sym c.standing-place.ensures) c.deref.ensures.value refl
    c.as_mut.ensures.value c.index_mut.ensures.value) (placed c.args.below c.args.born) c.place_below.ensures
