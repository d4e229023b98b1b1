use Rattle.fm_stack.proofs.Words.{first_of, mount_refusals, StackWorld}
use Rattle.std.proofs.Common.{◌∙◌, sym, ap}
use Rattle.fm_stack.proofs.Alike.{follows_itself}
use Rattle.fm_stack.proofs.Kept.{mounted_kept}
use Rattle.fm_stack.proofs.Registering.{mounted_follows}
use Rattle.fm_stack.proofs.stack.Stack.mount.Goals as goal

pub returns-in_default-reserve-clause-follows : goal.returns-in_default-reserve-clause-follows
returns-in_default-reserve-clause-follows c = rw (← c.self.view_is) (follows_itself _)

pub returns-in_default-push-clause-follows : goal.returns-in_default-push-clause-follows
returns-in_default-push-clause-follows c = rw (← c.self.view_is, c.in_default-push.ensures.items) (follows_itself _)

pub invariant_of-self-2 : goal.invariant_of-self-2
invariant_of-self-2 c =
    let none = ap (λ (w : StackWorld). first_of (mount_refusals w c.args.name)) c.self.view_is ∙ sym c.mount_refusal.ensures ∙ c.in_default.is in
    rw (c.in-Ok-push.ensures.items, c.push_reserved.ensures.items, c.reserve.ensures.items, c.in-Ok.ensures)
    (mounted_kept _ _ c.args.name c.self.invariant none)

pub returns-clause-follows : goal.returns-clause-follows
returns-clause-follows c = rw (← c.self.view_is, c.in-Ok-push.ensures.items) (mounted_follows _ c.args.name c.self.invariant.stack)
