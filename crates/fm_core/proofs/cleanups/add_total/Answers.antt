use Rattle.fm_core.proofs.Words.{ap, sym, ◌%◌, ◌+◌, ◌^◌, ◌∙◌, totalled_for}
use Rattle.std.proofs.lemmas.Option.{slice_get_past}
use Rattle.fm_types.proofs.Lists.{updated_none}
use Rattle.fm_core.proofs.cleanups.add_total.Goals as goal

pub returns-else-at-totals : goal.returns-else-at-totals
returns-else-at-totals c =
    sym (updated_none (λ n. (n + c.args.number) % 2 ^ 64) c.args.totals.now c.in-Some.filter.0 (slice_get_past c.args.totals.now c.in-Some.filter.0
    c.if-at-totals.false))
    ∙ sym (ap (λ f. totalled_for f c.args.number c.args.totals.now) c.in-Some.is)
