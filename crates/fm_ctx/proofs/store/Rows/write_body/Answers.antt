use Rattle.fm_ctx.proofs.Words.{ℕ, List, length, refl, ap, arith, Row, row_with}
use Rattle.fm_ctx.proofs.Stored.{has_entry, row_now, changed_now}
use Rattle.fm_ctx.specs.Rows.{vacant_row}
use Rattle.fm_ctx.specs.Stored.{open_row}
use Rattle.fm_ctx.proofs.store.Rows.write_body.Goals as goal

pub index_mut-entry-requires : goal.index_mut-entry-requires
index_mut-entry-requires c = has_entry c.self.inside.slots.slots c.self.inside.lasts.items c.self.view_is c.args.slot c.requires.there

pub copy_from_slice-requires : goal.copy_from_slice-requires
copy_from_slice-requires c =
    let d = vacant_row 0 in
    omega (
      arith,
      c.requires.length d,
      ap (λ (r : Row). length r.body)
          (row_now c.self.inside.slots.slots c.self.inside.lasts.items c.self.view_is c.args.slot c.requires.there
          c.index_mut-entry.result.now d c.index_mut-entry.ensures.value),
    )

pub returns : goal.returns
returns c =
    changed_now c.self.inside.slots.slots c.self.inside.lasts.items c.self.view_is c.args.slot c.requires.there
    c.index_mut-entry.result.now _ (row_with c.args.bytes.now) c.index_mut-entry.ensures.value refl
    (λ h. ap (λ (b : List ℕ). row_with b (open_row h c.index_mut-entry.result.now)) c.copy_from_slice.ensures.items)
