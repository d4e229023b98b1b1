use Rattle.std.proofs.Common.{◌∙◌}
use Rattle.fm_ctx.proofs.Words.{Some, Row, sym, refl, ap, ContextsKept, with_link, linked, linked_row}
use Rattle.fm_ctx.proofs.Moves.{free_link}
use Rattle.fm_ctx.proofs.Changing.{opens_at, row_read, row_live, row_raises, sound_now, sound_linked, shown, slots_by, carried_kept, seat_within, seat_free, linked_seat, indexed_set}
use Rattle.fm_ctx.proofs.contexts.Contexts.link.Goals as goal

pub entry-requires : goal.entry-requires
entry-requires c = opens_at (row_live c.self.invariant c.self.view_is c.args.id c.requires.live)

pub put-requires : goal.put-requires
put-requires c =
    let i = row_live c.self.invariant c.self.view_is c.args.id c.requires.live in
    let free = free_link c.args.id c.args.object (sound_now c.self.invariant c.self.view_is).lawful c.requires.live c.requires.free in
    record { within = seat_within i c.self.invariant.seated; free = seat_free i c.self.invariant.seated c.self.view_is free.there free.bare }

pub link-requires : goal.link-requires
link-requires c = let r = row_raises c.self.invariant c.self.view_is c.args.id c.requires.live in record { there = r.0; fits = r.1 }

pub returns : goal.returns
returns c =
    let g = linked_row c.args.object in
    let i = row_live c.self.invariant c.self.view_is c.args.id c.requires.live in
    shown _ c.self.inside.leaks c.link.ensures (slots_by i g (with_link (Some c.args.object)) refl refl) (carried_kept i g refl) refl refl refl
    ∙ ap (λ (k : ContextsKept). record k { table = linked k.table c.args.id c.args.object }) c.self.view_is

pub invariant_of-self : goal.invariant_of-self
invariant_of-self c =
    let i = row_live c.self.invariant c.self.view_is c.args.id c.requires.live in
    indexed_set c.self.invariant i (linked_row c.args.object) _ c.link.ensures (returns c) refl
    (sound_linked (sound_now c.self.invariant c.self.view_is) c.args.id c.args.object c.requires.live c.requires.free) c.put.ensures refl
    (linked_seat i c.args.object c.entry.result.now.owner (ap (λ (r : Row). r.owner) (sym (c.entry.ensures i.row) ∙ row_read i i.row)))
