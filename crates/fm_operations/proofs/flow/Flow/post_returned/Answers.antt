use Rattle.fm_operations.proofs.Words.{refl, sym, ap, Err, FlowRecord, StandsAt, PostRunning, data_fits, data_reply, post_after, post_returned_of}
use Rattle.fm_operations.proofs.Flows.{uncounted, found, told_some, changed_some, said_there, kept_took, stands_some, sound_now}
use Rattle.std.proofs.Common.{◌∙◌}
use Rattle.fm_operations.specs.Tallied.{if_taken, left_post}
use Rattle.fm_operations.proofs.Follows.{Leaves, follows_less, may_leave}
use Rattle.fm_operations.proofs.Soundness.{stays_so, unspent}
use Rattle.fm_operations.proofs.Returns.{sound_post_returned, post_uncreated, post_leaves}
use Rattle.fm_operations.proofs.flow.Flow.post_returned.Goals.{After-if_taken}
use Rattle.fm_operations.proofs.flow.Flow.post_returned.Goals as goal

left : (c : After-if_taken) → Leaves c.if_taken.result c.as_mut-operation.result.now c.post_returned-reply.new.self
left c =
    let there = found c.args.number c.self.view_is (sym c.standing-place.ensures) c.deref.ensures.value refl
    c.as_mut-operation.ensures.value c.index_mut.ensures.value in
    let ends = c.left_post.ensures ∙ ap (λ state. left_post state c.last_posted-instance.result) c.post_state.ensures in
    post_leaves c.args.verdict c.args.lent c.as_mut-operation.result.now c.last_posted-instance.result
    (said_there there (StandsAt PostRunning) c.requires) (sound_now there c.self.invariant)
    c.last_posted-instance.ensures c.post_returned-reply.ensures.after c.post_returned-reply.ensures.reply (c.if_taken.ensures
    ∙ ap (if_taken c.post_returned-reply.result) ends)

pub standing-place-requires : goal.standing-place-requires
standing-place-requires c = record {
  there = stands_some PostRunning c.args.number c.self.view_is c.deref.ensures.value c.requires;
  ascending = rw c.deref.ensures.value c.self.invariant.0.ascending;
}

pub post_returned-reply-requires : goal.post_returned-reply-requires
post_returned-reply-requires c =
    said_there (found c.args.number c.self.view_is (sym c.standing-place.ensures) c.deref.ensures.value refl
    c.as_mut-operation.ensures.value c.index_mut.ensures.value) (StandsAt PostRunning) c.requires

pub invariant_of-self : goal.invariant_of-self
invariant_of-self c =
    let there = found c.args.number c.self.view_is (sym c.standing-place.ensures) c.deref.ensures.value refl
    c.as_mut-operation.ensures.value c.index_mut.ensures.value in
    let stage = said_there there (StandsAt PostRunning) c.requires in
    kept_took there c.self.invariant (λ (r : FlowRecord). data_fits r.operation r.path c.args.lent) (post_returned_of c.args.verdict c.args.lent)
    c.post_returned-reply.ensures.after (λ r. stays_so refl refl)
    (sound_post_returned c.args.verdict c.args.lent c.as_mut-operation.result.now stage)
    (λ h. unspent c.as_mut-operation.result.now (post_returned_of c.args.verdict c.args.lent c.as_mut-operation.result.now)
    (stays_so refl refl) (rw stage refl) h)
    (uncounted c.self.inside.creates c.as_mut-operation.result.now c.post_returned-reply.new.self
    (post_uncreated c.args.verdict c.args.lent _ _ stage c.post_returned-reply.ensures.after))
    (follows_less there c.self.invariant c.if_taken.result c.leaves.ensures.table c.leaves.ensures.after (left (goal.at.invariant_of-self c).After-if_taken))

pub leaves-requires : goal.leaves-requires
leaves-requires c =
    let there = found c.args.number c.self.view_is (sym c.standing-place.ensures) c.deref.ensures.value refl
    c.as_mut-operation.ensures.value c.index_mut.ensures.value in
    may_leave there c.self.invariant c.if_taken.result c.post_returned-reply.new.self (left (goal.at.leaves-requires c).After-if_taken)

pub returns : goal.returns
returns c =
    let there = found c.args.number c.self.view_is (sym c.standing-place.ensures) c.deref.ensures.value refl
    c.as_mut-operation.ensures.value c.index_mut.ensures.value in
    record {
      reply = told_some there (data_reply c.args.lent) (Err c.args.lent) c.post_returned-reply.ensures.reply;
      after = changed_some there (post_after c.args.verdict c.args.lent) c.post_returned-reply.ensures.after;
    }
