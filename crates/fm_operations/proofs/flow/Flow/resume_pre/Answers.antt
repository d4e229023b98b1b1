use Rattle.fm_operations.proofs.Words.{refl, sym, ap, one, arith, StandsAt, PreHeld}
use Rattle.fm_operations.specs.Steps.{pre_settled}
use Rattle.fm_operations.proofs.Flows.{may_recount, found, changed_some, said_there, kept_set, stands_some, sound_now}
use Rattle.fm_operations.proofs.Follows.{Leaves, follows_less, may_leave}
use Rattle.fm_operations.proofs.Soundness.{stays_so, unspent}
use Rattle.fm_operations.proofs.Resumes.{sound_pre_resumed, resumed_pre_leaves}
use Rattle.fm_operations.proofs.flow.Flow.resume_pre.Goals.{After-left_pre}
use Rattle.fm_operations.proofs.flow.Flow.resume_pre.Goals as goal

left : (c : After-left_pre) → Leaves c.left_pre.result c.as_mut-operation.result.now c.resume_pre.new.self
left c =
    let there = found c.args.number c.self.view_is (sym c.standing-place.ensures) c.deref.ensures.value refl
    c.as_mut-operation.ensures.value c.index_mut.ensures.value in
    resumed_pre_leaves c.args.state c.as_mut-operation.result.now c.last_visited-instance.result
    (said_there there (StandsAt PreHeld) c.requires.stage) (sound_now there c.self.invariant)
    c.last_visited-instance.ensures c.resume_pre.ensures c.left_pre.ensures

pub standing-place-requires : goal.standing-place-requires
standing-place-requires c = record {
  there = stands_some PreHeld c.args.number c.self.view_is c.deref.ensures.value c.requires.stage;
  ascending = rw c.deref.ensures.value c.self.invariant.0.ascending;
}

pub resume_pre-requires-clause-stage : goal.resume_pre-requires-clause-stage
resume_pre-requires-clause-stage c = said_there (found c.args.number c.self.view_is
    (sym c.standing-place.ensures) c.deref.ensures.value refl c.as_mut-operation.ensures.value c.index_mut.ensures.value)
    (StandsAt PreHeld) c.requires.stage

pub invariant_of-self : goal.invariant_of-self
invariant_of-self c =
    let there = found c.args.number c.self.view_is (sym c.standing-place.ensures) c.deref.ensures.value refl
    c.as_mut-operation.ensures.value c.index_mut.ensures.value in
    kept_set there c.self.invariant (pre_settled c.args.state) c.resume_pre.ensures (λ r. stays_so refl refl)
    (sound_pre_resumed c.args.state c.as_mut-operation.result.now (said_there there (StandsAt PreHeld) c.requires.stage) c.requires.counted)
    (λ h needed. let stage = said_there there (StandsAt PreHeld) c.requires.stage in
    unspent c.as_mut-operation.result.now (pre_settled c.args.state c.as_mut-operation.result.now) (stays_so refl refl) (rw stage refl) h)
    (omega (arith, c.recounted-self-inside.ensures, ap one c.is_creating-was_creating.ensures, ap one c.is_creating.ensures))
    (follows_less there c.self.invariant c.left_pre.result c.leaves.ensures.table c.leaves.ensures.after (left (goal.at.invariant_of-self c).After-left_pre))

pub leaves-requires : goal.leaves-requires
leaves-requires c =
    let there = found c.args.number c.self.view_is (sym c.standing-place.ensures) c.deref.ensures.value refl
    c.as_mut-operation.ensures.value c.index_mut.ensures.value in
    may_leave there c.self.invariant c.left_pre.result c.resume_pre.new.self (left (goal.at.leaves-requires c).After-left_pre)

pub returns : goal.returns
returns c = changed_some (found c.args.number c.self.view_is (sym c.standing-place.ensures) c.deref.ensures.value refl
    c.as_mut-operation.ensures.value c.index_mut.ensures.value) (pre_settled c.args.state) c.resume_pre.ensures

pub recounted-self-inside-requires : goal.recounted-self-inside-requires
recounted-self-inside-requires c =
    let there = found c.args.number c.self.view_is (sym c.standing-place.ensures) c.deref.ensures.value refl
    c.as_mut-operation.ensures.value c.index_mut.ensures.value in
    may_recount there c.self.invariant c.is_creating-was_creating.ensures
