use Rattle.std.proofs.Common.{◌∙◌}
use Rattle.fm_ctx.proofs.Words.{refl, ap, ContextsKept, grabbed, raised}
use Rattle.fm_ctx.proofs.Changing.{row_live, row_raises, sound_now, sound_grabbed, shown, slots_kept, carried_kept, indexed_kept}
use Rattle.fm_ctx.proofs.contexts.Contexts.grab.Goals as goal

pub raise-requires : goal.raise-requires
raise-requires c = let r = row_raises c.self.invariant c.self.view_is c.args.id c.requires.live in record { there = r.0; fits = r.1 }

pub returns : goal.returns
returns c =
    let i = row_live c.self.invariant c.self.view_is c.args.id c.requires.live in
    shown _ c.self.inside.leaks c.raise.ensures (slots_kept i raised refl) (carried_kept i raised refl) c.put.ensures refl refl
    ∙ ap (λ (k : ContextsKept). record k { table = grabbed k.table c.args.worker.0 c.args.id }) c.self.view_is

pub invariant_of-self : goal.invariant_of-self
invariant_of-self c =
    let s = sound_now c.self.invariant c.self.view_is in
    indexed_kept c.self.invariant (row_live c.self.invariant c.self.view_is c.args.id c.requires.live) raised c.raise.ensures (returns c) refl
    (sound_grabbed s c.args.worker.0 c.args.id c.requires.within c.requires.live c.requires.room) refl refl
