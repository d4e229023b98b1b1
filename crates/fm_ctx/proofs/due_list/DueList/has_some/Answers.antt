use Rattle.std.proofs.Common.{◌∙◌}
use Rattle.fm_ctx.proofs.Words.{ap, length, ltb}
use Rattle.fm_ctx.specs.DueLists.{Waiting, walk}
use Rattle.fm_ctx.proofs.DueLists.{some_first}
use Rattle.fm_ctx.proofs.due_list.DueList.has_some.Goals as goal

pub returns : goal.returns
returns c =
    let inside = c.self.inside in
    c.is_some.ensures ∙ some_first inside.nexts.items (walk (length inside.nexts.items) inside.nexts.items inside.first) inside.first
    c.self.invariant.linked.chain
    ∙ ap (λ (w : Waiting). ltb 0 (length w.ids)) c.self.view_is
