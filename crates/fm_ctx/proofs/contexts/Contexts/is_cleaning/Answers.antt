use Rattle.std.proofs.Common.{◌≡◌, ◌∙◌, not}
use Rattle.std.specs.List.{list_any}
use Rattle.fm_ctx.proofs.Words.{List, Option, CtxId, ContextsKept, sym, ap, arith, nat_tests, places, cleans}
use Rattle.fm_ctx.proofs.Bags.{due_or_cleaned}
use Rattle.fm_ctx.proofs.Sound.{sound_now}
use Rattle.fm_ctx.proofs.contexts.Contexts.is_cleaning.Goals as goal

pub returns : goal.returns
returns c =
    let now = c.args.self.now.table in
    let once : places now.due now.cleaning c.args.id ≡ 1 =
    grind (arith, nat_tests, (sound_now c.self.invariant c.self.view_is).lawful.waits c.args.id, c.requires.there, c.requires.idle) in
    let told = c.is_any.ensures ∙ ap (λ (cleaning : List (Option CtxId)). list_any (cleans c.args.id) cleaning) c.deref.ensures.value
    ∙ ap (λ (k : ContextsKept). list_any (cleans c.args.id) k.table.cleaning) c.self.view_is in
    due_or_cleaned now.due now.cleaning c.args.id once ∙ ap not (sym told)
