use Rattle.fm_operations.proofs.Words.{refl, sym, StandsAt, PostHeld}
use Rattle.fm_operations.specs.Steps.{post_settled}
use Rattle.fm_operations.specs.declared.entry.PostState.TheVariants as post
use Rattle.fm_operations.proofs.Flows.{uncounted, found, changed_some, said_there, kept_set, stands_some, sound_now}
use Rattle.fm_operations.proofs.Follows.{Leaves, follows_less, may_leave}
use Rattle.fm_operations.proofs.Soundness.{stays_so, unspent}
use Rattle.fm_operations.proofs.Resumes.{sound_post_resumed, post_resumed_uncreated, resumed_post_leaves}
use Rattle.fm_operations.proofs.flow.Flow.resume_post.Goals.{After-resume_post}
use Rattle.fm_operations.proofs.flow.Flow.resume_post.Goals as goal

left : (c : After-resume_post) → Leaves c.last_posted-instance.result c.as_mut-operation.result.now c.resume_post.new.self
left c =
    let there = found c.args.number c.self.view_is (sym c.standing-place.ensures) c.deref.ensures.value refl
    c.as_mut-operation.ensures.value c.index_mut.ensures.value in
    resumed_post_leaves c.as_mut-operation.result.now c.last_posted-instance.result (said_there there (StandsAt PostHeld) c.requires)
    (sound_now there c.self.invariant)
    c.last_posted-instance.ensures c.resume_post.ensures

pub standing-place-requires : goal.standing-place-requires
standing-place-requires c = record {
  there = stands_some PostHeld c.args.number c.self.view_is c.deref.ensures.value c.requires;
  ascending = rw c.deref.ensures.value c.self.invariant.0.ascending;
}

pub resume_post-requires : goal.resume_post-requires
resume_post-requires c =
    said_there (found c.args.number c.self.view_is (sym c.standing-place.ensures) c.deref.ensures.value refl
    c.as_mut-operation.ensures.value c.index_mut.ensures.value) (StandsAt PostHeld) c.requires

pub invariant_of-self : goal.invariant_of-self
invariant_of-self c =
    let there = found c.args.number c.self.view_is (sym c.standing-place.ensures) c.deref.ensures.value refl
    c.as_mut-operation.ensures.value c.index_mut.ensures.value in
    let stage = said_there there (StandsAt PostHeld) c.requires in
    kept_set there c.self.invariant (post_settled post.Finished) c.resume_post.ensures (λ r. stays_so refl refl)
    (sound_post_resumed c.as_mut-operation.result.now stage)
    (λ h needed. unspent c.as_mut-operation.result.now (post_settled post.Finished c.as_mut-operation.result.now) (stays_so refl refl) (rw stage refl) h)
    (uncounted c.self.inside.creates c.as_mut-operation.result.now c.resume_post.new.self (post_resumed_uncreated _ _ stage c.resume_post.ensures))
    (follows_less there c.self.invariant c.last_posted-instance.result c.leaves.ensures.table c.leaves.ensures.after
    (left (goal.at.invariant_of-self c).After-resume_post))

pub leaves-requires : goal.leaves-requires
leaves-requires c =
    let there = found c.args.number c.self.view_is (sym c.standing-place.ensures) c.deref.ensures.value refl
    c.as_mut-operation.ensures.value c.index_mut.ensures.value in
    may_leave there c.self.invariant c.last_posted-instance.result c.resume_post.new.self (left (goal.at.leaves-requires c).After-resume_post)

pub returns : goal.returns
returns c =
    changed_some (found c.args.number c.self.view_is (sym c.standing-place.ensures) c.deref.ensures.value refl
    c.as_mut-operation.ensures.value c.index_mut.ensures.value) (post_settled post.Finished) c.resume_post.ensures
