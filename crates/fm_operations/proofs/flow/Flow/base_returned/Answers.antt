use Rattle.fm_operations.proofs.Words.{refl, sym, Err, ap, one, arith, FlowRecord, StandsAt, InBase, base_fits, base_reply, base_after, base_returned_of}
use Rattle.fm_operations.proofs.Flows.{may_recount, found, told_some, changed_some, said_there, kept_took, stands_some}
use Rattle.fm_operations.proofs.Soundness.{stays_so, unspent}
use Rattle.fm_operations.proofs.Returns.{sound_base, base_flies}
use Rattle.fm_operations.proofs.Follows.{follows_same}
use Rattle.fm_operations.proofs.flow.Flow.base_returned.Goals as goal

pub standing-place-requires : goal.standing-place-requires
standing-place-requires c = record {
  there = stands_some InBase c.args.number c.self.view_is c.deref.ensures.value c.requires;
  ascending = rw c.deref.ensures.value c.self.invariant.0.ascending;
}

pub base_returned-reply-requires : goal.base_returned-reply-requires
base_returned-reply-requires c = said_there (found c.args.number c.self.view_is (sym c.standing-place.ensures) c.deref.ensures.value
    refl c.as_mut-operation.ensures.value c.index_mut.ensures.value) (StandsAt InBase) c.requires

pub invariant_of-self : goal.invariant_of-self
invariant_of-self c =
    let there = found c.args.number c.self.view_is (sym c.standing-place.ensures) c.deref.ensures.value refl
    c.as_mut-operation.ensures.value c.index_mut.ensures.value in
    kept_took there c.self.invariant (λ (r : FlowRecord). base_fits c.args.call c.args.answer r) (base_returned_of c.args.call c.args.answer c.args.handle)
    c.base_returned-reply.ensures.after (λ r. stays_so refl refl)
    (sound_base c.args.call c.args.answer c.args.handle c.as_mut-operation.result.now (said_there there (StandsAt InBase) c.requires))
    (λ h. let stage = said_there there (StandsAt InBase) c.requires in
    unspent c.as_mut-operation.result.now (base_returned_of c.args.call c.args.answer c.args.handle c.as_mut-operation.result.now)
    (stays_so refl refl) (rw stage refl) h)
    (omega (arith, c.recounted-self-inside.ensures, ap one c.is_creating-was_creating.ensures, ap one c.is_creating.ensures))
    (follows_same (λ j. base_flies j c.args.call c.args.answer c.args.handle c.as_mut-operation.result.now
    c.base_returned-reply.new.self c.base_returned-reply.ensures.after))

pub returns : goal.returns
returns c =
    let there = found c.args.number c.self.view_is (sym c.standing-place.ensures) c.deref.ensures.value refl
    c.as_mut-operation.ensures.value c.index_mut.ensures.value in
    record {
      reply = told_some there (base_reply c.args.call c.args.answer) (Err (c.args.call, c.args.answer)) c.base_returned-reply.ensures.reply;
      after = changed_some there (base_after c.args.call c.args.answer c.args.handle) c.base_returned-reply.ensures.after;
    }

pub recounted-self-inside-requires : goal.recounted-self-inside-requires
recounted-self-inside-requires c =
    let there = found c.args.number c.self.view_is (sym c.standing-place.ensures) c.deref.ensures.value refl
    c.as_mut-operation.ensures.value c.index_mut.ensures.value in
    may_recount there c.self.invariant c.is_creating-was_creating.ensures
