use Rattle.fm_ctx.proofs.Words.{refl, ap, arith, Row, raised}
use Rattle.fm_ctx.specs.Rows.{vacant_row}
use Rattle.fm_ctx.proofs.Stored.{has_entry, row_now, changed_now}
use Rattle.fm_ctx.proofs.store.Rows.raise.Goals as goal

pub index_mut-entry-requires : goal.index_mut-entry-requires
index_mut-entry-requires c = has_entry c.self.inside.slots.slots c.self.inside.lasts.items c.self.view_is c.args.slot c.requires.there

pub overflow_add-entry : goal.overflow_add-entry
overflow_add-entry c =
    let d = vacant_row 0 in
    omega (
      arith,
      c.requires.fits d,
      ap (λ (r : Row). r.count)
          (row_now c.self.inside.slots.slots c.self.inside.lasts.items c.self.view_is c.args.slot c.requires.there
          c.index_mut-entry.result.now d c.index_mut-entry.ensures.value),
    )

pub returns : goal.returns
returns c =
    changed_now c.self.inside.slots.slots c.self.inside.lasts.items c.self.view_is c.args.slot c.requires.there
    c.index_mut-entry.result.now _ raised c.index_mut-entry.ensures.value refl (λ h. refl)
