use Rattle.fm_stack.proofs.Words.{first_of, attach_refusals, registration_in, StackWorld}
use Rattle.std.proofs.Common.{◌∙◌, length, Option, sym, ap}
use Rattle.fm_types.specs.declared.status.Status.{Status}
use Rattle.fm_stack.proofs.Alike.{follows_itself}
use Rattle.fm_stack.proofs.Attaching.{attached_follows}
use Rattle.fm_stack.proofs.Kept.{attached_kept}
use Rattle.fm_stack.proofs.stack.Stack.attach.Goals as goal

pub invariant_of-self-2 : goal.invariant_of-self-2
invariant_of-self-2 c =
    let refusal : StackWorld → Option Status = λ w. first_of (attach_refusals w c.args.filter c.args.volume c.args.name c.args.altitude) in
    let none = ap refusal c.self.view_is ∙ sym c.attach_refusal.ensures ∙ c.in_default.is in
    let registered =
    ap (λ (w : StackWorld). registration_in w.filters c.args.filter) c.self.view_is ∙ sym c.registration_in.ensures ∙ c.in-Some-registration_in.is in
    let last = c.len.ensures ∙ sym c.deref-2.ensures.len ∙ ap length c.deref-2.ensures.value in
    rw (c.in-Ok.ensures.items, c.new.ensures, c.insert_at.ensures, c.place_under-place.ensures.place, c.deref-2.ensures.value)
    (rw (c.seats_at-seats.ensures, c.deref.ensures.value)
    (attached_kept _ _ c.args.filter c.args.volume c.args.name c.args.altitude _ c.self.invariant none last registered))

pub returns-in_default-push-clause-follows : goal.returns-in_default-push-clause-follows
returns-in_default-push-clause-follows c = rw (← c.self.view_is, c.in_default-push.ensures.items) (follows_itself _)

pub returns-clause-follows : goal.returns-clause-follows
returns-clause-follows c =
    rw (← c.self.view_is, c.in-Ok.ensures.items, c.new.ensures)
    (attached_follows _ c.args.filter c.args.volume c.args.name c.args.altitude c.self.invariant.stack)
