use Rattle.std.proofs.Common.{◌∙◌}
use Rattle.fm_ctx.proofs.Words.{None, refl, ap, ContextsKept, carried_of, with_link, unlinked, lowered, unlinked_row}
use Rattle.fm_ctx.proofs.Changing.{opens_at, live_linked, row_linked, row_placed, row_positive, due_missing, sound_now, dropped_row, sound_unlinked, shown, slots_by}
use Rattle.fm_ctx.proofs.Changing.{carried_kept, due_by, updated_twice, opens_updated, seat_within, unlinked_seat, indexed_set}
use Rattle.fm_ctx.proofs.contexts.Contexts.unlink.Goals as goal

pub drop_reference-requires : goal.drop_reference-requires
drop_reference-requires c =
    let s = sound_now c.self.invariant c.self.view_is in
    let i = row_linked c.self.invariant c.self.view_is c.args.id c.requires in
    let live = live_linked s c.args.id c.requires in
    record {
      there = opens_at i;
      some = row_positive s i live;
      within = row_placed c.self.invariant i;
      absent =
          due_missing c.self.invariant c.self.view_is c.args.id live;
    }

pub unlink-requires : goal.unlink-requires
unlink-requires c = let i = row_linked c.self.invariant c.self.view_is c.args.id c.requires in opens_updated i lowered c.drop_reference.ensures.rows i.open_yet

pub take-requires : goal.take-requires
take-requires c = seat_within (row_linked c.self.invariant c.self.view_is c.args.id c.requires) c.self.invariant.seated

pub returns : goal.returns
returns c =
    let i = row_linked c.self.invariant c.self.view_is c.args.id c.requires in
    let is = updated_twice unlinked_row lowered c.self.inside.rows c.args.id.slot c.drop_reference.ensures.rows c.unlink.ensures in
    let due = due_by i c.self.invariant.sound c.drop_reference.ensures.due in
    shown _ c.self.inside.leaks is (slots_by i dropped_row (with_link None) refl refl) (carried_kept i dropped_row refl) refl due refl
    ∙ ap (λ (k : ContextsKept). record k { table = unlinked (carried_of k) k.table c.args.id }) c.self.view_is

pub invariant_of-self : goal.invariant_of-self
invariant_of-self c =
    let i = row_linked c.self.invariant c.self.view_is c.args.id c.requires in
    let is = updated_twice unlinked_row lowered c.self.inside.rows c.args.id.slot c.drop_reference.ensures.rows c.unlink.ensures in
    indexed_set c.self.invariant i dropped_row None is (returns c) c.drop_reference.ensures.slots
    (sound_unlinked (sound_now c.self.invariant c.self.view_is) c.args.id c.requires) c.take.ensures refl (unlinked_seat i.row)
