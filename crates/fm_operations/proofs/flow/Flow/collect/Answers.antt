use Rattle.fm_operations.proofs.Words.{sym, ap, FlowRecord, Err, WrongStep, collect_reply}
use Rattle.std.proofs.Common.{◌∙◌}
use Rattle.fm_operations.proofs.Flows.{missing, told_none, through, found, itself, operation_is}
use Rattle.fm_types.proofs.Firsts.{found_holds}
use Rattle.fm_operations.proofs.Words.{IsSound, is_number}
use Rattle.fm_operations.proofs.Requests.{collected_none, collect_refused, collect_told, collect_marked, collect_removed, flow_collected}
use Rattle.fm_operations.proofs.Requests.{may_fall, tally_marked, tally_removed}
use Rattle.fm_operations.proofs.flow.Flow.collect.Goals as goal

pub returns-in_default : goal.returns-in_default
returns-in_default c =
    let none = missing c.args.number c.place_of.ensures c.deref.ensures.value c.in_default.is in
    record { reply = told_none collect_reply (Err WrongStep) c.args.number c.self.view_is none; after = collected_none c.args.number c.self.view_is none }

pub returns-then-not-is_collectable : goal.returns-then-not-is_collectable
returns-then-not-is_collectable c =
    let there = found c.args.number c.self.view_is c.place_of.ensures c.deref.ensures.value c.in-Some.is c.as_ref.ensures c.index.ensures in
    let refused = collect_refused there (sym c.is_collectable.ensures ∙ c.if-not-is_collectable.true) in
    record { reply = refused.0; after = refused.1 }

pub overflow_sub-self : goal.overflow_sub-self
overflow_sub-self c =
    let there = found c.args.number c.self.view_is c.place_of.ensures c.deref.ensures.value c.in-Some.is c.as_ref.ensures c.index.ensures in
    may_fall (itself there) (sym c.is_collectable.ensures ∙ c.if-not-is_collectable.false) c.self.invariant.1

-- a drain runs
pub invariant_of-self : goal.invariant_of-self
invariant_of-self c =
    let there = itself (found c.args.number c.self.view_is c.place_of.ensures c.deref.ensures.value c.in-Some.is c.as_ref.ensures c.index.ensures) in
    let ready = sym c.is_collectable.ensures ∙ c.if-not-is_collectable.false in
    let asked = through c.self.inside.operations.items c.in-Some.place c.as_ref-2.ensures c.index-2.ensures in
    let marks = through c.self.inside.operations.items c.in-Some.place c.as_mut-operation.ensures.value c.index_mut.ensures.value in
    let runs = sym c.has_running_drain.ensures ∙ c.if-has_running_drain.true in (
      flow_collected c.args.number (collect_marked there ready asked runs marks c.hand_out.ensures.after) c.self.invariant.0,
      tally_marked there ready marks c.hand_out.ensures.after c.self.invariant.1,
    )

pub returns-then-has_running_drain : goal.returns-then-has_running_drain
returns-then-has_running_drain c =
    let there = found c.args.number c.self.view_is c.place_of.ensures c.deref.ensures.value c.in-Some.is c.as_ref.ensures c.index.ensures in
    let ready = sym c.is_collectable.ensures ∙ c.if-not-is_collectable.false in
    let asked = through c.self.inside.operations.items c.in-Some.place c.as_ref-2.ensures c.index-2.ensures in
    let marks = through c.self.inside.operations.items c.in-Some.place c.as_mut-operation.ensures.value c.index_mut.ensures.value in
    let runs = sym c.has_running_drain.ensures ∙ c.if-has_running_drain.true in
    record { reply = collect_told there ready marks c.hand_out.ensures.answer; after = collect_marked there ready asked runs marks c.hand_out.ensures.after }

-- none runs
pub invariant_of-self-2 : goal.invariant_of-self-2
invariant_of-self-2 c =
    let there = itself (found c.args.number c.self.view_is c.place_of.ensures c.deref.ensures.value c.in-Some.is c.as_ref.ensures c.index.ensures) in
    let ready = sym c.is_collectable.ensures ∙ c.if-not-is_collectable.false in
    let asked = through c.self.inside.operations.items c.in-Some.place c.as_ref-2.ensures c.index-2.ensures in
    let rests = sym c.has_running_drain.ensures ∙ c.if-has_running_drain.false in
    let sound = found_holds IsSound (is_number c.args.number) c.self.inside.operations.items _ c.self.invariant.0.sound (operation_is there) in (
      flow_collected c.args.number (collect_removed there ready asked rests c.remove.ensures.items) c.self.invariant.0,
      tally_removed there ready sound asked rests c.remove.ensures.items c.self.invariant.1,
    )

pub returns : goal.returns
returns c =
    let there = found c.args.number c.self.view_is c.place_of.ensures c.deref.ensures.value c.in-Some.is c.as_ref.ensures c.index.ensures in
    let ready = sym c.is_collectable.ensures ∙ c.if-not-is_collectable.false in
    let asked = through c.self.inside.operations.items c.in-Some.place c.as_ref-2.ensures c.index-2.ensures in
    let rests = sym c.has_running_drain.ensures ∙ c.if-has_running_drain.false in
    let answer = c.into_answer-answer.ensures ∙ ap (λ (r : FlowRecord). r.answer) c.into_record.ensures in
    record { reply = collect_told there ready c.remove.ensures.value answer; after = collect_removed there ready asked rests c.remove.ensures.items }
