use Rattle.fm_ctx.proofs.Words.{ap, arith, ContextsKept}
use Rattle.fm_ctx.specs.Counting.{cleaned_count}
use Rattle.fm_ctx.proofs.Rows.{born_rows, cleaned_rows}
use Rattle.fm_ctx.proofs.contexts.Contexts.cleaned_count.Goals as goal

pub cleaned-requires : goal.cleaned-requires
cleaned-requires c =
    let rows = c.self.inside.rows in
    let a = c.self.invariant.account in
    omega (arith, a.born, a.opened, born_rows rows, cleaned_rows rows)

pub returns : goal.returns
returns c =
    let rows = c.self.inside.rows in
    let a = c.self.invariant.account in
    omega (arith, c.cleaned.ensures, a.born, a.opened, born_rows rows, cleaned_rows rows, ap (λ (k : ContextsKept). cleaned_count k.table.slots) c.self.view_is)
