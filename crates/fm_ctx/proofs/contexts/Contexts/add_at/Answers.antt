use Rattle.std.proofs.Common.{◌≡◌, ◌∙◌}
use Rattle.fm_ctx.proofs.Words.{ℕ, List, updated, length, refl, ap, ap₂, arith, ContextsKept, body_at, rewritten, row_with}
use Rattle.fm_ctx.specs.Bodies.{raised, with_number}
use Rattle.fm_ctx.proofs.Changing.{row_named, opens_at, body_row, sound_now, sound_rewritten, shown, slots_with, carried_kept, indexed_kept}
use Rattle.fm_ctx.proofs.contexts.Contexts.add_at.Goals as goal

pub bump-requires : goal.bump-requires
bump-requires c =
    let i = row_named c.self.inside.rows c.args.id c.self.view_is c.requires.there in
    record { there = opens_at i; within = λ d. omega (arith, c.requires.within, ap length (body_row i c.self.view_is d)) }

-- the bytes that then stand in the body
abbrev bytes_of : goal.After-bump → List ℕ
bytes_of c =
    let body = body_at c.args.self.now.table.slots c.args.id in
    with_number c.args.place (raised c.args.place c.args.by body) body

pub returns-clause-sum : goal.returns-clause-sum
returns-clause-sum c =
    let i = row_named c.self.inside.rows c.args.id c.self.view_is c.requires.there in
    c.bump.ensures.sum i.row ∙ ap (raised c.args.place c.args.by) (body_row i c.self.view_is i.row)

-- the row, with the body that its context has then
rewritten_is : (c : goal.After-bump) → c.bump.new.self ≡ updated (row_with (bytes_of c)) c.self.inside.rows c.args.id.slot
rewritten_is c =
    let i = row_named c.self.inside.rows c.args.id c.self.view_is c.requires.there in
    c.bump.ensures.rest i.row
    ∙ ap₂ (λ (n : ℕ) (b : List ℕ). updated (row_with (with_number c.args.place n b)) c.self.inside.rows c.args.id.slot)
    (returns-clause-sum c) (body_row i c.self.view_is i.row)

pub returns-clause-after : goal.returns-clause-after
returns-clause-after c =
    let i = row_named c.self.inside.rows c.args.id c.self.view_is c.requires.there in
    let bytes = bytes_of c in
    shown _ c.self.inside.leaks (rewritten_is c) (slots_with i bytes) (carried_kept i (row_with bytes) refl) refl refl refl
    ∙ ap (λ (k : ContextsKept). record k { table = rewritten k.table c.args.id bytes }) c.self.view_is

pub invariant_of-self : goal.invariant_of-self
invariant_of-self c =
    let i = row_named c.self.inside.rows c.args.id c.self.view_is c.requires.there in
    indexed_kept c.self.invariant i (row_with (bytes_of c)) (rewritten_is c) (returns-clause-after c) refl
    (sound_rewritten (sound_now c.self.invariant c.self.view_is) (row_with (bytes_of c)) i _ refl refl) refl refl
