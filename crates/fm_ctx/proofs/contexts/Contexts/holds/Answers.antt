use Rattle.std.proofs.Common.{◌≡◌, ◌<◌, ◌∙◌}
use Rattle.fm_ctx.proofs.Words.{List, [], true, length, is_some, sym, ap, subst, arith, get_or_default, CtxId, holds, context_at, ContextsKept}
use Rattle.fm_ctx.proofs.Sound.{context_there, live_held}
use Rattle.fm_ctx.proofs.contexts.Contexts.holds.Goals as goal

pub returns-clause-there : goal.returns-clause-there
returns-clause-there c is =
    let hands = c.self.inside.hands.items in
    let within : c.args.worker.0 < length hands = omega (arith, c.self.invariant.sound.lawful.workers, c.requires) in
    let hand = c.index.ensures ∙ get_or_default hands c.args.worker.0 c.index.result.now [] within in
    let has = sym (ap (λ (ids : List CtxId). holds ids c.args.id) hand) ∙ sym c.holds.ensures ∙ is in
    subst (λ (k : ContextsKept). is_some (context_at k.table.slots c.args.id) ≡ true) c.self.view_is
    (context_there c.args.id c.self.invariant.sound.lawful (live_held c.self.invariant.sound c.args.worker.0 c.args.id c.requires has))
