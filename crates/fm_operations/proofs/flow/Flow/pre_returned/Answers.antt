use Rattle.fm_operations.proofs.Words.{refl, sym, Err, ap, one, arith, FlowRecord, StandsAt, PreRunning, data_fits, data_reply, pre_after, pre_returned_of}
use Rattle.fm_operations.proofs.Flows.{may_recount, found, told_some, changed_some, said_there, kept_took, stands_some, sound_now}
use Rattle.std.proofs.Common.{◌∙◌}
use Rattle.fm_operations.specs.Tallied.{if_taken}
use Rattle.fm_operations.proofs.Follows.{Leaves, follows_less, may_leave}
use Rattle.fm_operations.proofs.Soundness.{stays_so, unspent}
use Rattle.fm_operations.proofs.Returns.{sound_pre_returned, pre_leaves}
use Rattle.fm_operations.proofs.flow.Flow.pre_returned.Goals.{After-if_taken}
use Rattle.fm_operations.proofs.flow.Flow.pre_returned.Goals as goal

left : (c : After-if_taken) → Leaves c.if_taken.result c.as_mut-operation.result.now c.pre_returned-reply.new.self
left c =
    let there = found c.args.number c.self.view_is (sym c.standing-place.ensures) c.deref.ensures.value refl
    c.as_mut-operation.ensures.value c.index_mut.ensures.value in
    pre_leaves c.args.state c.args.lent c.as_mut-operation.result.now c.last_visited-instance.result
    (said_there there (StandsAt PreRunning) c.requires.stage) (sound_now there c.self.invariant)
    c.last_visited-instance.ensures c.pre_returned-reply.ensures.after c.pre_returned-reply.ensures.reply (c.if_taken.ensures
    ∙ ap (if_taken c.pre_returned-reply.result) c.left_pre.ensures)

pub standing-place-requires : goal.standing-place-requires
standing-place-requires c = record {
  there = stands_some PreRunning c.args.number c.self.view_is c.deref.ensures.value
      c.requires.stage;
  ascending = rw c.deref.ensures.value c.self.invariant.0.ascending;
}

pub pre_returned-reply-requires-clause-stage : goal.pre_returned-reply-requires-clause-stage
pre_returned-reply-requires-clause-stage c = said_there
    (found c.args.number c.self.view_is (sym c.standing-place.ensures) c.deref.ensures.value refl c.as_mut-operation.ensures.value
    c.index_mut.ensures.value) (StandsAt PreRunning) c.requires.stage

pub invariant_of-self : goal.invariant_of-self
invariant_of-self c =
    let there = found c.args.number c.self.view_is (sym c.standing-place.ensures) c.deref.ensures.value refl
    c.as_mut-operation.ensures.value c.index_mut.ensures.value in
    kept_took there c.self.invariant (λ (r : FlowRecord). data_fits r.operation r.path c.args.lent) (pre_returned_of c.args.state c.args.lent)
    c.pre_returned-reply.ensures.after (λ r. stays_so refl refl)
    (λ fits. sound_pre_returned c.args.state c.args.lent c.as_mut-operation.result.now
    (said_there there (StandsAt PreRunning) c.requires.stage) c.requires.counted fits)
    (λ h. let stage = said_there there (StandsAt PreRunning) c.requires.stage in
    unspent c.as_mut-operation.result.now (pre_returned_of c.args.state c.args.lent c.as_mut-operation.result.now) (stays_so refl refl) (rw stage refl) h)
    (omega (arith, c.recounted-self-inside.ensures, ap one c.is_creating-was_creating.ensures, ap one c.is_creating.ensures))
    (follows_less there c.self.invariant c.if_taken.result c.leaves.ensures.table c.leaves.ensures.after (left (goal.at.invariant_of-self c).After-if_taken))

pub leaves-requires : goal.leaves-requires
leaves-requires c =
    let there = found c.args.number c.self.view_is (sym c.standing-place.ensures) c.deref.ensures.value refl
    c.as_mut-operation.ensures.value c.index_mut.ensures.value in
    may_leave there c.self.invariant c.if_taken.result c.pre_returned-reply.new.self (left (goal.at.leaves-requires c).After-if_taken)

pub returns : goal.returns
returns c =
    let there = found c.args.number c.self.view_is (sym c.standing-place.ensures) c.deref.ensures.value refl
    c.as_mut-operation.ensures.value c.index_mut.ensures.value in
    record {
      reply = told_some there (data_reply c.args.lent) (Err c.args.lent) c.pre_returned-reply.ensures.reply;
      after =
          changed_some there (pre_after c.args.state c.args.lent) c.pre_returned-reply.ensures.after;
    }

pub recounted-self-inside-requires : goal.recounted-self-inside-requires
recounted-self-inside-requires c =
    let there = found c.args.number c.self.view_is (sym c.standing-place.ensures) c.deref.ensures.value refl
    c.as_mut-operation.ensures.value c.index_mut.ensures.value in
    may_recount there c.self.invariant c.is_creating-was_creating.ensures
