use Rattle.std.proofs.Common.{◌∙◌}
use Rattle.fm_ctx.proofs.Words.{option_and_then, sym, ap}
use Rattle.fm_ctx.specs.Counting.{is_open}
use Rattle.fm_ctx.specs.Stored.{context_in_entry}
use Rattle.fm_ctx.proofs.Stored.{shown_at}
use Rattle.fm_ctx.proofs.store.Rows.is_open_of.Goals as goal

pub returns-in_default : goal.returns-in_default
returns-in_default c d =
    ap (is_open c.args.owner) (ap (option_and_then context_in_entry) c.in_default.ensures
    ∙ sym (shown_at c.self.inside.slots.slots c.self.inside.lasts.items c.self.view_is c.args.slot d c.requires))

pub returns : goal.returns
returns c d =
    c.is_open_of.ensures ∙ ap (is_open c.args.owner) (ap (option_and_then context_in_entry) c.in-Some.ensures
    ∙ sym (shown_at c.self.inside.slots.slots c.self.inside.lasts.items c.self.view_is c.args.slot d c.requires))
