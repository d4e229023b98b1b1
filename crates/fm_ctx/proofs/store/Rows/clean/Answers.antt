use Rattle.std.proofs.Common.{◌∙◌}
use Rattle.fm_ctx.proofs.Words.{true, None, Some, sym, ap, arith, get_or, set, subst}
use Rattle.std.proofs.lemmas.List.{get_or-set_same, get_or-set_other}
use Rattle.fm_ctx.specs.Stored.{FitsLast, row_by}
use Rattle.fm_ctx.proofs.Stored.{has_entry, within_now, cleaned_now, stored_set, slot_within, young_here}
use Rattle.fm_ctx.proofs.store.Rows.clean.Goals as goal

pub index-requires : goal.index-requires
index-requires c = omega (arith, within_now c.self.inside.slots.slots c.self.inside.lasts.items c.self.view_is c.args.slot c.requires, c.self.inside.lasts.ok.0)

pub remove-requires : goal.remove-requires
remove-requires c = has_entry c.self.inside.slots.slots c.self.inside.lasts.items c.self.view_is c.args.slot c.requires

pub index_mut-entry-requires : goal.index_mut-entry-requires
index_mut-entry-requires c = has_entry c.self.inside.slots.slots c.self.inside.lasts.items c.self.view_is c.args.slot c.requires

pub invariant_of-self : goal.invariant_of-self
invariant_of-self c =
    let young = young_here c.self.invariant c.args.slot c.index.result.now c.remove.result c.next_generation.result
    c.remove.ensures.value c.index.ensures c.next_generation.ensures
    (sym c.if-is_some.true ∙ c.is_some.ensures) in
    stored_set c.args.slot c.self.invariant (within_now c.self.inside.slots.slots c.self.inside.lasts.items c.self.view_is c.args.slot
    c.requires) (subst (FitsLast _) (sym c.remove.ensures.updates.changed) young) c.remove.ensures.updates.others

pub returns-then-is_some : goal.returns-then-is_some
returns-then-is_some c =
    cleaned_now c.self.inside.slots.slots c.self.inside.lasts.items c.self.view_is c.args.slot c.requires c.remove.new.self.slots
    (ap (row_by (get_or c.self.inside.lasts.items c.args.slot 0)) c.remove.ensures.updates.changed)
    c.remove.ensures.updates.others

pub returns-else-is_some : goal.returns-else-is_some
returns-else-is_some c =
    let slots = c.self.inside.slots.slots in
    let kept = record c.index_mut-entry.result.now { is_retired = true } in
    let here = get_or-set_same slots c.args.slot (Some kept) None
    (slot_within slots c.args.slot c.index_mut-entry.result.now c.index_mut-entry.ensures.value) in
    cleaned_now c.self.inside.slots.slots c.self.inside.lasts.items c.self.view_is c.args.slot c.requires
    (set slots c.args.slot (Some kept)) (ap (row_by (get_or c.self.inside.lasts.items c.args.slot 0)) here)
    (λ j apart. get_or-set_other slots c.args.slot j (Some kept) None apart)
