use Rattle.std.proofs.Common.{◌∙◌}
use Rattle.fm_ctx.proofs.Words.{ℕ, List, length, refl, sym, ap, arith, updated, Row, row_with, with_number}
use Rattle.fm_ctx.proofs.Stored.{has_entry, row_now, changed_now, entry_kept}
use Rattle.fm_ctx.specs.Bodies.{raised}
use Rattle.fm_ctx.specs.Rows.{vacant_row}
use Rattle.fm_ctx.specs.Stored.{open_row}
use Rattle.fm_ctx.proofs.store.Rows.bump.Goals as goal

pub index_mut-entry-requires : goal.index_mut-entry-requires
index_mut-entry-requires c = has_entry c.self.inside.slots.slots c.self.inside.lasts.items c.self.view_is c.args.slot c.requires.there

pub bump_number-requires : goal.bump_number-requires
bump_number-requires c =
    let d = vacant_row 0 in
    omega (
      arith,
      c.requires.within d,
      ap (λ (r : Row). length r.body)
          (row_now c.self.inside.slots.slots c.self.inside.lasts.items c.self.view_is c.args.slot c.requires.there
          c.index_mut-entry.result.now d c.index_mut-entry.ensures.value),
    )

pub returns-clause-sum : goal.returns-clause-sum
returns-clause-sum c d =
    c.bump_number.ensures.sum ∙ sym (ap (λ (r : Row). raised c.args.place c.args.by r.body)
    (row_now c.self.inside.slots.slots c.self.inside.lasts.items c.self.view_is c.args.slot c.requires.there
    c.index_mut-entry.result.now d c.index_mut-entry.ensures.value))

pub returns-clause-rest : goal.returns-clause-rest
returns-clause-rest c d =
    let body = ap (λ (r : Row). r.body) (row_now c.self.inside.slots.slots c.self.inside.lasts.items c.self.view_is c.args.slot
    c.requires.there c.index_mut-entry.result.now d c.index_mut-entry.ensures.value) in
    changed_now c.self.inside.slots.slots c.self.inside.lasts.items c.self.view_is c.args.slot c.requires.there
    c.index_mut-entry.result.now _ (row_with (with_number c.args.place c.bump_number.result
    c.index_mut-entry.result.now.body.items)) c.index_mut-entry.ensures.value refl
    (λ h. ap (λ (b : List ℕ). row_with b (open_row h c.index_mut-entry.result.now)) c.bump_number.ensures.rest)
    ∙ ap (λ (b : List ℕ). updated (row_with (with_number c.args.place c.bump_number.result b)) c.args.self.now c.args.slot) (sym body)

pub invariant_of-self : goal.invariant_of-self
invariant_of-self c =
    entry_kept c.self.inside.slots.slots c.self.invariant c.args.slot c.index_mut-entry.result.now _ c.index_mut-entry.ensures.value refl
