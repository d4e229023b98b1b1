use Rattle.std.proofs.Common.{◌∙◌}
use Rattle.fm_ctx.proofs.Words.{ap, sym, option_map, unwrap_or, Row, ContextsKept, context_at, count_in, carried_of, context_of, count_of_row}
use Rattle.fm_ctx.proofs.Rows.{context_at-rows, carried_row}
use Rattle.fm_ctx.proofs.contexts.Contexts.entry.Goals as goal

pub returns-clause-context : goal.returns-clause-context
returns-clause-context c =
    ap (option_map context_of) c.named.ensures
    ∙ sym (context_at-rows c.self.inside.rows c.args.id) ∙ ap (λ (k : ContextsKept). context_at k.table.slots c.args.id) c.self.view_is

pub returns-clause-carried : goal.returns-clause-carried
returns-clause-carried c =
    let inside = c.self.inside in
    ap (λ o. unwrap_or (option_map (λ (r : Row). r.carried) o) 0) c.named.ensures
    ∙ sym (carried_row inside.rows inside.hands.items inside.due.ids inside.cleaning.items inside.leaks c.self.inside.left.items
    c.args.id) ∙ ap (λ (k : ContextsKept). carried_of k c.args.id) c.self.view_is

pub returns-clause-count : goal.returns-clause-count
returns-clause-count c =
    ap count_of_row c.named.ensures ∙ c.self.invariant.sound.counted c.args.id
    ∙ ap (λ (k : ContextsKept). count_in (carried_of k) k.table c.args.id) c.self.view_is
