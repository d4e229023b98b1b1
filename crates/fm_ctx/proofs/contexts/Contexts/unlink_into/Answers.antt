use Rattle.std.proofs.Common.{◌∙◌}
use Rattle.fm_ctx.proofs.Words.{None, refl, ap, ContextsKept, with_link, unlinked_into, unlinked_row}
use Rattle.fm_ctx.proofs.Changing.{opens_at, row_linked, sound_now, sound_unlinked_into, shown, slots_by, carried_kept, seat_within, unlinked_seat, indexed_set}
use Rattle.fm_ctx.proofs.contexts.Contexts.unlink_into.Goals as goal

pub unlink-requires : goal.unlink-requires
unlink-requires c = opens_at (row_linked c.self.invariant c.self.view_is c.args.id c.requires.linked)

pub take-requires : goal.take-requires
take-requires c = seat_within (row_linked c.self.invariant c.self.view_is c.args.id c.requires.linked) c.self.invariant.seated

pub returns : goal.returns
returns c =
    let i = row_linked c.self.invariant c.self.view_is c.args.id c.requires.linked in
    shown _ c.self.inside.leaks c.unlink.ensures (slots_by i unlinked_row (with_link None) refl refl) (carried_kept i unlinked_row refl) c.put.ensures refl refl
    ∙ ap (λ (k : ContextsKept). record k { table = unlinked_into k.table c.args.worker.0 c.args.id }) c.self.view_is

pub invariant_of-self : goal.invariant_of-self
invariant_of-self c =
    let s = sound_now c.self.invariant c.self.view_is in
    let i = row_linked c.self.invariant c.self.view_is c.args.id c.requires.linked in
    indexed_set c.self.invariant i unlinked_row None c.unlink.ensures (returns c) refl
    (sound_unlinked_into s c.args.worker.0 c.args.id c.requires.within c.requires.linked c.requires.room) c.take.ensures refl (unlinked_seat i.row)
