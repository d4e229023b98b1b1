use Rattle.std.proofs.Common.{◌∙◌}
use Rattle.fm_ctx.proofs.Words.{ap, sym, Row}
use Rattle.fm_ctx.proofs.Rows.{row_named, opens_at, body_row}
use Rattle.fm_ctx.proofs.contexts.Contexts.body.Goals as goal

pub entry-requires : goal.entry-requires
entry-requires c = opens_at (row_named c.self.inside.rows c.args.id c.self.view_is c.requires)

pub returns : goal.returns
returns c =
    let i = row_named c.self.inside.rows c.args.id c.self.view_is c.requires in
    c.as_slice.ensures.value ∙ sym (ap (λ (r : Row). r.body) (c.entry.ensures i.row)) ∙ body_row i c.self.view_is i.row
