use Rattle.fm_core.proofs.Words.{IsSound, subst, sym, ◌∙◌}
use Rattle.fm_core.proofs.Operated.{lower_begins, lower_refused, lower_wants, may_place}
use Rattle.fm_core.proofs.state.State.begin_from.Goals as goal

pub returns-in-Some-clause-event : goal.returns-in-Some-clause-event
returns-in-Some-clause-event c =
    lower_refused c.args.self.now c.args.from c.args.what c.in-Some.refusal (sym c.from_refusal.ensures ∙ c.in-Some.is)

pub place_from-requires : goal.place_from-requires
place_from-requires c =
    may_place c.args.self.now c.args.from c.args.what c.in-Ok.operation (subst IsSound c.self.view_is c.self.invariant.sound)
    (sym c.from_refusal.ensures ∙ c.in_default.is) c.in-Ok.ensures.event

pub returns-in-Ok-clause-event : goal.returns-in-Ok-clause-event
returns-in-Ok-clause-event c =
    lower_begins c.args.self.now c.args.from c.args.what c.in-Ok.operation c.place_from.new.self (sym c.from_refusal.ensures ∙ c.in_default.is)
    c.in-Ok.ensures.event c.place_from.ensures

pub returns-in-Err-clause-event : goal.returns-in-Err-clause-event
returns-in-Err-clause-event c =
    lower_wants c.args.self.now c.args.from c.args.what c.in-Err.refusal c.begin_at.new.self (sym c.from_refusal.ensures ∙ c.in_default.is)
    c.in-Err.ensures.event
