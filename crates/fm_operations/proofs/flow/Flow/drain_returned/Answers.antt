use Rattle.fm_operations.proofs.Words.{refl, sym, Some, StandsAt, InDrain, drain_returned_of}
use Rattle.fm_operations.proofs.Flows.{uncounted, found, changed_some, said_there, kept_set, stands_some, sound_now}
use Rattle.fm_operations.proofs.Follows.{Leaves, follows_less, may_leave}
use Rattle.fm_operations.proofs.Soundness.{stays_so, unspent}
use Rattle.fm_operations.proofs.Returns.{sound_drain_returned, drain_uncreated, drain_leaves}
use Rattle.fm_operations.proofs.flow.Flow.drain_returned.Goals.{After-drain_returned}
use Rattle.fm_operations.proofs.flow.Flow.drain_returned.Goals as goal

left : (c : After-drain_returned) → Leaves (Some c.args.instance) c.as_mut.result.now c.drain_returned.new.self
left c =
    let there = found c.args.number c.self.view_is (sym c.standing-place.ensures) c.deref.ensures.value refl c.as_mut.ensures.value c.index_mut.ensures.value in
    drain_leaves c.args.instance c.as_mut.result.now (said_there there (StandsAt (InDrain c.args.instance)) c.requires)
    (sound_now there c.self.invariant) c.drain_returned.ensures

pub standing-place-requires : goal.standing-place-requires
standing-place-requires c = record {
  there = stands_some (InDrain c.args.instance) c.args.number c.self.view_is c.deref.ensures.value
      c.requires;
  ascending = rw c.deref.ensures.value c.self.invariant.0.ascending;
}

pub drain_returned-requires : goal.drain_returned-requires
drain_returned-requires c = said_there (found c.args.number c.self.view_is (sym c.standing-place.ensures) c.deref.ensures.value refl
    c.as_mut.ensures.value c.index_mut.ensures.value) (StandsAt (InDrain c.args.instance)) c.requires

pub invariant_of-self : goal.invariant_of-self
invariant_of-self c =
    let there = found c.args.number c.self.view_is (sym c.standing-place.ensures) c.deref.ensures.value refl c.as_mut.ensures.value c.index_mut.ensures.value in
    kept_set there c.self.invariant (drain_returned_of c.args.instance) c.drain_returned.ensures (λ r. stays_so refl refl)
    (sound_drain_returned c.args.instance c.as_mut.result.now (said_there there (StandsAt (InDrain c.args.instance)) c.requires))
    (λ h needed. let stage = said_there there (StandsAt (InDrain c.args.instance)) c.requires in
    unspent c.as_mut.result.now (drain_returned_of c.args.instance c.as_mut.result.now) (stays_so refl refl) (rw stage refl) h)
    (uncounted c.self.inside.creates c.as_mut.result.now c.drain_returned.new.self
    (drain_uncreated c.args.instance _ _ (said_there there (StandsAt (InDrain c.args.instance)) c.requires) c.drain_returned.ensures))
    (follows_less there c.self.invariant (Some c.args.instance) c.leaves.ensures.table c.leaves.ensures.after
    (left (goal.at.invariant_of-self c).After-drain_returned))

pub leaves-requires : goal.leaves-requires
leaves-requires c =
    let there = found c.args.number c.self.view_is (sym c.standing-place.ensures) c.deref.ensures.value refl c.as_mut.ensures.value c.index_mut.ensures.value in
    may_leave there c.self.invariant (Some c.args.instance) c.drain_returned.new.self (left (goal.at.leaves-requires c).After-drain_returned)

pub returns : goal.returns
returns c = changed_some (found c.args.number c.self.view_is (sym c.standing-place.ensures) c.deref.ensures.value refl
    c.as_mut.ensures.value c.index_mut.ensures.value) (drain_returned_of c.args.instance) c.drain_returned.ensures
