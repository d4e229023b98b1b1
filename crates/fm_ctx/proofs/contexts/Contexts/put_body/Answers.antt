use Rattle.std.proofs.Common.{◌∙◌}
use Rattle.fm_ctx.proofs.Words.{length, refl, sym, ap, ContextsKept, rewritten, row_with}
use Rattle.fm_ctx.proofs.Changing.{row_named, opens_at, body_row, sound_now, sound_rewritten, shown, slots_with, carried_kept, indexed_kept}
use Rattle.fm_ctx.proofs.contexts.Contexts.put_body.Goals as goal

pub write_body-requires : goal.write_body-requires
write_body-requires c =
    let i = row_named c.self.inside.rows c.args.id c.self.view_is c.requires.there in
    record { there = opens_at i; length = λ d. c.requires.length ∙ sym (ap length (body_row i c.self.view_is d)) }

pub returns : goal.returns
returns c =
    let i = row_named c.self.inside.rows c.args.id c.self.view_is c.requires.there in
    shown _ c.self.inside.leaks c.write_body.ensures (slots_with i c.args.bytes.now) (carried_kept i (row_with c.args.bytes.now) refl) refl refl refl
    ∙ ap (λ (k : ContextsKept). record k { table = rewritten k.table c.args.id c.args.bytes.now }) c.self.view_is

pub invariant_of-self : goal.invariant_of-self
invariant_of-self c =
    let i = row_named c.self.inside.rows c.args.id c.self.view_is c.requires.there in
    indexed_kept c.self.invariant i (row_with c.args.bytes.now) c.write_body.ensures (returns c) refl
    (sound_rewritten (sound_now c.self.invariant c.self.view_is) (row_with c.args.bytes.now) i c.args.bytes.now refl refl) refl refl
