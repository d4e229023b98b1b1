use Rattle.std.proofs.Common.{◌∙◌}
use Rattle.fm_ctx.proofs.Words.{ℕ, sym, ap, Row}
use Rattle.fm_ctx.proofs.Stored.{has_entry, row_now}
use Rattle.fm_ctx.specs.Stored.{open_row}
use Rattle.fm_ctx.proofs.store.Rows.entry.Goals as goal

pub index-requires : goal.index-requires
index-requires c = has_entry c.self.inside.slots.slots c.self.inside.lasts.items c.self.view_is c.args.slot c.requires

pub returns : goal.returns
returns c d =
    let row = row_now c.self.inside.slots.slots c.self.inside.lasts.items c.self.view_is c.args.slot c.requires c.index.result.now d c.index.ensures in
    row ∙ ap (λ (g : ℕ). open_row g c.index.result.now) (sym (ap (λ (r : Row). r.generation) row))
