use Rattle.std.proofs.Common.{◌∙◌}
use Rattle.fm_ctx.proofs.Words.{ap, ContextsKept, born}
use Rattle.fm_ctx.proofs.Rows.{born_rows}
use Rattle.fm_ctx.proofs.contexts.Contexts.born.Goals as goal

pub returns : goal.returns
returns c = c.self.invariant.account.born ∙ born_rows c.self.inside.rows ∙ ap (λ (k : ContextsKept). born k.table.slots) c.self.view_is
