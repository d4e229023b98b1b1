use Rattle.fm_operations.proofs.Words.{Err, ap, one, arith, FlowRecord, WrongStep, next_of, MayLieBelowOf}
use Rattle.fm_operations.proofs.Flows.{may_recount, missing, told_none, changed_none, found, told_some, changed_some, said_there, kept_set, sound_now}
use Rattle.std.proofs.Common.{◌∙◌}
use Rattle.fm_operations.proofs.Follows.{Leaves, follows_more, may_enter}
use Rattle.fm_operations.proofs.Words.{subst, sym, IsSound}
use Rattle.fm_operations.proofs.Next.{next_needed, next_stays, sound_next, next_comes}
use Rattle.fm_operations.proofs.flow.Flow.next.Goals.{After-entered}
use Rattle.fm_operations.proofs.flow.Flow.next.Goals as goal

comes : (c : After-entered) → Leaves c.entered.result c.next-reply.new.self c.as_mut-operation.result.now
comes c =
    let there = found c.args.number c.self.view_is c.place_of.ensures c.deref.ensures.value c.in-Some.is
    c.as_mut-operation.ensures.value c.index_mut.ensures.value in
    next_comes c.args.worker c.args.below c.args.is_stopping c.as_mut-operation.result.now
    (said_there there (MayLieBelowOf c.args.below) c.requires) (sound_now there c.self.invariant)
    c.next-reply.ensures.after c.next-reply.ensures.reply c.entered.ensures

pub returns-in_default : goal.returns-in_default
returns-in_default c =
    let none = missing c.args.number c.place_of.ensures c.deref.ensures.value c.in_default.is in
    record {
      reply = told_none (λ (r : FlowRecord). (next_of c.args.worker c.args.below c.args.is_stopping r).reply) (Err WrongStep) c.args.number c.self.view_is none;
      after = changed_none (λ (r : FlowRecord). (next_of c.args.worker c.args.below c.args.is_stopping r).after) c.args.number c.self.view_is none;
    }

pub next-reply-requires : goal.next-reply-requires
next-reply-requires c = said_there (found c.args.number c.self.view_is c.place_of.ensures c.deref.ensures.value c.in-Some.is
    c.as_mut-operation.ensures.value c.index_mut.ensures.value) (MayLieBelowOf c.args.below) c.requires

pub invariant_of-self : goal.invariant_of-self
invariant_of-self c =
    let there = found c.args.number c.self.view_is c.place_of.ensures c.deref.ensures.value c.in-Some.is
    c.as_mut-operation.ensures.value c.index_mut.ensures.value in
    kept_set there c.self.invariant (λ (r : FlowRecord). (next_of c.args.worker c.args.below c.args.is_stopping r).after)
    c.next-reply.ensures.after (next_stays c.args.worker c.args.below c.args.is_stopping)
    (λ h. sound_next c.args.worker c.args.below c.args.is_stopping c.as_mut-operation.result.now h
    (λ e. (said_there there (MayLieBelowOf c.args.below) c.requires)))
    (λ h needed. next_needed c.args.worker c.args.below c.args.is_stopping c.as_mut-operation.result.now needed)
    (omega (arith, c.recounted-self-inside.ensures, ap one c.is_creating-was_creating.ensures, ap one c.is_creating.ensures))
    (follows_more c.entered.result c.enters.ensures.table c.enters.ensures.after (comes (goal.at.invariant_of-self c).After-entered))

pub returns : goal.returns
returns c =
    let there = found c.args.number c.self.view_is c.place_of.ensures c.deref.ensures.value c.in-Some.is
    c.as_mut-operation.ensures.value c.index_mut.ensures.value in
    record {
      reply = told_some there (λ (r : FlowRecord). (next_of c.args.worker c.args.below c.args.is_stopping r).reply) (Err WrongStep) c.next-reply.ensures.reply;
      after = changed_some there (λ (r : FlowRecord). (next_of c.args.worker c.args.below c.args.is_stopping r).after) c.next-reply.ensures.after;
    }

pub recounted-self-inside-requires : goal.recounted-self-inside-requires
recounted-self-inside-requires c =
    may_recount (found c.args.number c.self.view_is c.place_of.ensures c.deref.ensures.value c.in-Some.is
    c.as_mut-operation.ensures.value c.index_mut.ensures.value) c.self.invariant c.is_creating-was_creating.ensures

pub enters-requires : goal.enters-requires
enters-requires c =
    let there = found c.args.number c.self.view_is c.place_of.ensures c.deref.ensures.value c.in-Some.is
    c.as_mut-operation.ensures.value c.index_mut.ensures.value in
    let sound = sound_next c.args.worker c.args.below c.args.is_stopping c.as_mut-operation.result.now
    (sound_now there c.self.invariant) (λ e. said_there there (MayLieBelowOf c.args.below) c.requires) in
    may_enter there c.self.invariant c.entered.result c.next-reply.new.self c.len-count.result (c.len-count.ensures ∙ c.self.inside.operations.ok.0)
    (subst IsSound (sym c.next-reply.ensures.after) sound) (comes (goal.at.enters-requires c).After-entered)
