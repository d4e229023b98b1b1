use Rattle.std.proofs.Common.{◌∙◌}
use Rattle.fm_ctx.proofs.Words.{List, [], Option, None, ap, sym, subst, CtxId}
use Rattle.fm_ctx.specs.DueLists.{AreLinked, waiting_in}
use Rattle.fm_ctx.proofs.DueLists.{due_list, linked_none, walked}
use Rattle.fm_ctx.proofs.due_list.DueList.new.Goals as goal

pub invariant_of-result : goal.invariant_of-result
invariant_of-result c =
    due_list (subst (λ (nexts : List (Option CtxId)). AreLinked nexts None None []) (sym c.in_ok-with_capacity.ensures.items)
    linked_none) c.in_ok-with_capacity.ensures.capacity

pub returns : goal.returns
returns c = ap (λ (nexts : List (Option CtxId)). waiting_in nexts None) c.in_ok-with_capacity.ensures.items
    ∙ ap (λ (ids : List CtxId). record { slots = 0; ids = ids }) (walked linked_none)
