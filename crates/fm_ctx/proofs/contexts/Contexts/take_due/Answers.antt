use Rattle.std.proofs.Common.{◌≡◌, ◌∙◌, drop}
use Rattle.fm_ctx.proofs.Words.{ℕ, [], List, Some, slice_get, refl, sym, ap, ap₂, CtxId, Row, ContextsKept, kept_in, row_with, taken_of}
use Rattle.fm_ctx.proofs.Words.{after_take_due}
use Rattle.fm_ctx.proofs.Changing.{row_read, opens_at, sound_now, due_row, sound_taken, shown, slots_with, carried_kept, due_told, read_updated, opens_updated, indexed_kept}
use Rattle.fm_ctx.proofs.contexts.Contexts.take_due.Goals as goal

pub take_body-body-requires : goal.take_body-body-requires
take_body-body-requires c = record { there = opens_at (due_row c.in_ok-id.id c.self.invariant.sound c.in_ok-id.ensures.some.0); bare = c.new.ensures.items }

pub entry-entry-requires : goal.entry-entry-requires
entry-entry-requires c =
    let i = due_row c.in_ok-id.id c.self.invariant.sound c.in_ok-id.ensures.some.0 in
    opens_updated i (row_with []) c.take_body-body.ensures.rest i.open_yet

pub returns-clause-reply : goal.returns-clause-reply
returns-clause-reply c =
    let i = due_row c.in_ok-id.id c.self.invariant.sound c.in_ok-id.ensures.some.0 in
    let row = sym (c.entry-entry.ensures i.row) ∙ read_updated i (row_with []) i.row c.take_body-body.ensures.rest in
    let body = c.from_vec.ensures ∙ c.take_body-body.ensures.body i.row ∙ ap (λ (r : Row). r.body) (row_read i i.row) in
    ap₂ (λ (r : Row) (bytes : List ℕ). Some (record { id = c.in_ok-id.id; kind = r.kind; owner = r.owner; body = bytes })) row body
    ∙ due_told i c.in_ok-id.ensures.some.0 c.self.view_is

pub returns-clause-after : goal.returns-clause-after
returns-clause-after c =
    let id = c.in_ok-id.id in
    let inside = c.self.inside in
    let i = due_row id c.self.invariant.sound c.in_ok-id.ensures.some.0 in
    let kept = kept_in inside.rows inside.hands.items inside.due.ids inside.cleaning.items inside.leaks inside.left.items in
    let first : slice_get inside.due.ids 0 ≡ Some id = ap (λ (due : List CtxId). slice_get due 0) c.in_ok-id.ensures.some.0 in
    shown _ inside.leaks c.take_body-body.ensures.rest (slots_with i []) (carried_kept i (row_with []) refl)
    refl (sym (ap (λ (due : List CtxId). drop 1 due) c.in_ok-id.ensures.some.0)) refl
    ∙ sym (ap (λ o. record kept { table = taken_of kept.table c.args.worker.0 o }) first)
    ∙ ap (λ (k : ContextsKept). record k { table = after_take_due k.table c.args.worker.0 }) c.self.view_is

pub invariant_of-self-2 : goal.invariant_of-self-2
invariant_of-self-2 c =
    let s = sound_now c.self.invariant c.self.view_is in
    let i = due_row c.in_ok-id.id c.self.invariant.sound c.in_ok-id.ensures.some.0 in
    let first : slice_get c.args.self.now.table.due 0 ≡ Some c.in_ok-id.id =
    ap (λ (k : ContextsKept). slice_get k.table.due 0) (sym c.self.view_is) ∙ ap (λ (due : List CtxId). slice_get due 0) c.in_ok-id.ensures.some.0 in
    indexed_kept c.self.invariant i (row_with []) c.take_body-body.ensures.rest (returns-clause-after c) c.in_ok-id.ensures.some.1
    (sound_taken s (row_with []) c.args.worker.0 i c.requires.within first c.requires.idle refl refl) refl refl
