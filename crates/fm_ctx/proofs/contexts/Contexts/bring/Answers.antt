use Rattle.std.proofs.Common.{◌-◌, ◌∙◌}
use Rattle.fm_ctx.proofs.Words.{refl, ap, arith, ContextsKept, carried_fewer, grabbed, brought_back}
use Rattle.fm_ctx.proofs.Changing.{opens_at, row_carried, row_carrying, sound_now, sound_brought, shown, slots_kept, carried_by, within_carried, indexed_kept}
use Rattle.fm_ctx.proofs.contexts.Contexts.bring.Goals as goal

pub bring-requires : goal.bring-requires
bring-requires c =
    let i = row_carrying c.self.invariant c.self.view_is c.args.id c.requires.carried in
    record { there = opens_at i; some = λ d. omega (arith, c.requires.carried, row_carried i c.self.view_is d) }

pub returns : goal.returns
returns c =
    let i = row_carrying c.self.invariant c.self.view_is c.args.id c.requires.carried in
    shown _ c.self.inside.leaks c.bring.ensures (slots_kept i brought_back refl) (carried_by i brought_back (λ n. n - 1) refl) c.put.ensures refl refl
    ∙ ap (λ (k : ContextsKept). record { table = grabbed k.table c.args.worker.0 c.args.id; carried = carried_fewer k.carried c.args.id }) c.self.view_is

pub invariant_of-self : goal.invariant_of-self
invariant_of-self c =
    let i = row_carrying c.self.invariant c.self.view_is c.args.id c.requires.carried in
    let s = sound_now c.self.invariant c.self.view_is in
    indexed_kept c.self.invariant i brought_back c.bring.ensures (returns c) refl
    (sound_brought s c.args.worker.0 c.args.id c.requires.within c.requires.carried (within_carried i c.self.view_is) c.requires.room) refl refl
