use Rattle.std.proofs.Common.{◌≡◌, ◌≢◌, ◌∙◌}
use Rattle.fm_ctx.proofs.Words.{ℕ, List, Option, None, Some, get_or, sym, ap, subst, Row, slots_of, put_row, IsNew}
use Rattle.slab.specs.Slab.{Slab}
use Rattle.fm_ctx.specs.declared.entry.Entry.{Entry}
use Rattle.fm_ctx.specs.Stored.{open_row}
use Rattle.fm_ctx.proofs.Stored.{new_put, rows_put, stored_put}
use Rattle.fm_ctx.proofs.store.Rows.put.Goals as goal

kept : (c : goal.After-insert_reserved) → c.reserve.new.self.slots ≡ c.self.inside.slots.slots
kept c = ap (λ (s : Slab Entry). s.slots) c.in_ok-reserve.ensures.rest_kept

key : (c : goal.After-insert_reserved) → c.insert_reserved.result ≡ c.vacant_key-slot.result
key c = c.insert_reserved.ensures.key ∙ sym c.vacant_key-slot.ensures.value

free : (c : goal.After-insert_reserved) → get_or c.self.inside.slots.slots c.vacant_key-slot.result None ≡ None
free c = ap (λ (l : List (Option Entry)). get_or l c.vacant_key-slot.result None) (sym (kept c)) ∙ c.vacant_key-slot.ensures.vacant

here : (c : goal.After-insert_reserved) → get_or c.insert_reserved.new.self.slots c.vacant_key-slot.result None ≡ Some c.args.entry
here c = ap (λ k. get_or c.insert_reserved.new.self.slots k None) (sym (key c)) ∙ c.insert_reserved.ensures.updates.changed

others : (c : goal.After-insert_reserved) (j : ℕ) → j ≢ c.vacant_key-slot.result → get_or c.insert_reserved.new.self.slots j None
    ≡ get_or c.self.inside.slots.slots j None
others c j apart =
    c.insert_reserved.ensures.updates.others j (λ is. apart (is ∙ key c)) ∙ ap (λ (l : List (Option Entry)). get_or l j None) (kept c)

pub invariant_of-self-2 : goal.invariant_of-self-2
invariant_of-self-2 c =
    stored_put c.insert_reserved.new.self.slots c.self.invariant c.vacant_key-slot.result c.in_ok-generation.generation c.args.entry
    (free c) c.in_ok-generation.ensures.ok (here c) (others c) c.requires.opens

pub returns-clause-ok : goal.returns-clause-ok
returns-clause-ok c =
    let slots = c.insert_reserved.new.self.slots in
    let k = c.vacant_key-slot.result in
    let g = c.in_ok-generation.generation in (
      subst (λ (rows : List Row). IsNew (slots_of rows) (record { slot = k; generation = g })) c.self.view_is
          (new_put slots c.self.invariant k g c.args.entry (free c) c.in_ok-generation.ensures.ok (here c) (others c) c.requires.opens),
      rows_put slots c.self.invariant k g c.args.entry (free c) c.in_ok-generation.ensures.ok (here c) (others c) c.requires.opens
          ∙ ap (λ (rows : List Row). put_row rows (record { slot = k; generation = g }) (open_row 0 c.args.entry)) c.self.view_is,
    )
