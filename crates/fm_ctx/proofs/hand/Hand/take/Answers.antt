use Rattle.std.proofs.Common.{List, remove, sym, ap, ◌∙◌}
use Rattle.fm_types.specs.declared.ids.CtxId.{CtxId}
use Rattle.fm_ctx.proofs.Holders.{without_found, without_absent}
use Rattle.fm_ctx.proofs.hand.Hand.take.Goals as goal

pub returns-in-Some : goal.returns-in-Some
returns-in-Some c =
    c.remove.ensures.items ∙ ap (λ (ids : List CtxId). remove ids c.in-Some.place) c.self.view_is
    ∙ without_found c.args.id c.args.self.now c.in-Some.place (sym c.place_of.ensures ∙ c.in-Some.is)

pub returns-in_default : goal.returns-in_default
returns-in_default c = sym (without_absent c.args.id c.args.self.now (sym c.place_of.ensures ∙ c.in_default.is))
