use Rattle.std.proofs.Common.{◌∙◌}
use Rattle.fm_ctx.proofs.Words.{refl, ap, ContextsKept, carried_of, released, lowered}
use Rattle.fm_ctx.proofs.Changing.{opens_at, live_held, row_held, row_placed, row_positive, due_missing, sound_now, sound_released, shown, slots_kept, carried_kept, due_by, indexed_kept}
use Rattle.fm_ctx.proofs.contexts.Contexts.let_go.Goals as goal

pub drop_reference-requires : goal.drop_reference-requires
drop_reference-requires c =
    let s = sound_now c.self.invariant c.self.view_is in
    let i = row_held c.self.invariant c.self.view_is c.args.worker.0 c.args.id c.requires.within c.requires.held in
    let live = live_held s c.args.worker.0 c.args.id c.requires.within c.requires.held in
    record {
      there = opens_at i;
      some = row_positive s i live;
      within = row_placed c.self.invariant i;
      absent =
          due_missing c.self.invariant c.self.view_is c.args.id live;
    }

pub returns : goal.returns
returns c =
    let i = row_held c.self.invariant c.self.view_is c.args.worker.0 c.args.id c.requires.within c.requires.held in
    let due = due_by i c.self.invariant.sound c.drop_reference.ensures.due in
    shown _ c.self.inside.leaks c.drop_reference.ensures.rows (slots_kept i lowered refl) (carried_kept i lowered refl) c.take.ensures due refl
    ∙ ap (λ (k : ContextsKept). record k { table = released (carried_of k) k.table c.args.worker.0 c.args.id }) c.self.view_is

pub invariant_of-self : goal.invariant_of-self
invariant_of-self c =
    let i = row_held c.self.invariant c.self.view_is c.args.worker.0 c.args.id c.requires.within c.requires.held in
    indexed_kept c.self.invariant i lowered c.drop_reference.ensures.rows (returns c) c.drop_reference.ensures.slots
    (sound_released (sound_now c.self.invariant c.self.view_is) c.args.worker.0 c.args.id c.requires.within c.requires.held) refl refl
