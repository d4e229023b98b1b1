use Rattle.fm_ctx.proofs.Words.{refl, unlinked_row}
use Rattle.fm_ctx.proofs.Stored.{has_entry, changed_now}
use Rattle.fm_ctx.proofs.store.Rows.unlink.Goals as goal

pub index_mut-entry-requires : goal.index_mut-entry-requires
index_mut-entry-requires c = has_entry c.self.inside.slots.slots c.self.inside.lasts.items c.self.view_is c.args.slot c.requires

pub returns : goal.returns
returns c =
    changed_now c.self.inside.slots.slots c.self.inside.lasts.items c.self.view_is c.args.slot c.requires c.index_mut-entry.result.now
    _ unlinked_row c.index_mut-entry.ensures.value refl (λ h. refl)
