use Rattle.fm_stack.proofs.Words.{first_of, register_refusals, StackWorld}
use Rattle.std.proofs.Common.{◌∙◌, sym, ap}
use Rattle.fm_stack.proofs.Kept.{registered_kept}
use Rattle.fm_stack.proofs.Registering.{registered_follows}
use Rattle.fm_stack.proofs.stack.Stack.register.Goals as goal

pub invariant_of-self-2 : goal.invariant_of-self-2
invariant_of-self-2 c =
    let none = ap (λ (w : StackWorld). first_of (register_refusals w c.args.name)) c.self.view_is ∙ sym c.register_refusal.ensures ∙ c.in_default.is in
    rw c.in-Ok.ensures.items (registered_kept _ _ c.args.name c.args.registration c.self.invariant none)

pub returns-clause-follows : goal.returns-clause-follows
returns-clause-follows c = rw (← c.self.view_is, c.in-Ok.ensures.items) (registered_follows _ c.args.name c.args.registration c.self.invariant.stack)
