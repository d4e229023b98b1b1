use Rattle.fm_operations.proofs.Words.{ap, sym, option_map, slice_get, settle, is_due}
use Rattle.std.proofs.Common.{◌∙◌, set}
use Rattle.fm_operations.proofs.Noted.{changed_at, due_alone}
use Rattle.fm_operations.proofs.entries.settle_due.Goals as goal

pub returns-clause-items : goal.returns-clause-items
returns-clause-items c =
    let there = ap (λ es. option_map (is_due c.args.ending) (slice_get es c.due_place-place.result)) (sym c.deref.ensures.value) ∙ c.due_place-place.ensures in
    ap (set c.args.entries.now.items c.due_place-place.result) (c.end.ensures ∙ ap (settle c.args.ending) c.index_mut.ensures.value)
    ∙ changed_at (is_due c.args.ending) (settle c.args.ending) c.args.entries.now.items c.due_place-place.result _ (due_alone c.args.ending) c.requires there
