use Rattle.std.proofs.Common.{◌+◌, ◌∙◌}
use Rattle.fm_ctx.proofs.Words.{refl, sym, ap, arith, ContextsKept, carried_more, handed_on, carried_away}
use Rattle.fm_ctx.proofs.Changing.{opens_at, row_carried, row_held, sound_now, sound_carried, shown, slots_kept, carried_by, within_carried, indexed_kept}
use Rattle.fm_ctx.proofs.contexts.Contexts.carry.Goals as goal

pub carry-requires : goal.carry-requires
carry-requires c =
    let i = row_held c.self.invariant c.self.view_is c.args.worker.0 c.args.id c.requires.within (sym c.if-not-holds.ensures.held) in
    record { there = opens_at i; fits = λ d. omega (arith, c.requires.few, row_carried i c.self.view_is d) }

pub returns-clause-after : goal.returns-clause-after
returns-clause-after c =
    let i = row_held c.self.invariant c.self.view_is c.args.worker.0 c.args.id c.requires.within (sym c.if-not-holds.ensures.held) in
    shown _ c.self.inside.leaks c.carry.ensures (slots_kept i carried_away refl) (carried_by i carried_away (λ n. n + 1) refl) c.take.ensures refl refl
    ∙ ap (λ (k : ContextsKept). record { table = handed_on k.table c.args.worker.0 c.args.id; carried = carried_more k.carried c.args.id }) c.self.view_is

pub invariant_of-self : goal.invariant_of-self
invariant_of-self c =
    let has = sym c.if-not-holds.ensures.held in
    let i = row_held c.self.invariant c.self.view_is c.args.worker.0 c.args.id c.requires.within has in
    let s = sound_now c.self.invariant c.self.view_is in
    indexed_kept c.self.invariant i carried_away c.carry.ensures (returns-clause-after c) refl
    (sound_carried s c.args.worker.0 c.args.id c.requires.within has (within_carried i c.self.view_is) c.requires.few) refl refl
