use Rattle.fm_core.proofs.Words.{the_view, idle_there, Ok, ap, refl, subst, sym, true, ◌∙◌, ◌≡◌, IsSound, is_idle, worker_at, World, option_map, slice_get}
use Rattle.fm_world.proofs.Words.{TakesDue, after_due}
use Rattle.fm_ctx.proofs.Lives.{due_there}
use Rattle.fm_world.proofs.Cleanups.{take_due_does}
use Rattle.fm_core.proofs.Cleaned.{due_tied, due_told}
use Rattle.fm_core.proofs.Operated.{within_at}
use Rattle.fm_ctx.specs.declared.due.Due.{Due}
use Rattle.fm_ctx.specs.Cleanup.{after_take_due}
use Rattle.fm_core.proofs.state.State.take_due.Goals as goal

pub take_due-due-requires-clause-within : goal.take_due-due-requires-clause-within
take_due-due-requires-clause-within c =
    within_at c.args.worker _ c.self.invariant (idle_there c.self.inside.workers c.args.worker
    (subst (λ (w : World). is_idle (worker_at w.workers c.args.worker) ≡ true) (sym c.self.view_is) (sym c.is_idle.ensures ∙ c.if-not-is_idle.false)))

pub returns-clause-event : goal.returns-clause-event
unfolding TakesDue
returns-clause-event c =
    let old = the_view c.self.inside in
    let told = ap (option_map (λ (d : Due). d.id)) c.take_due-due.ensures.reply
    ∙ due_told old.contexts (slice_get old.contexts.due 0) refl (λ d. due_there d c.self.invariant.sound.owned.lawful) in
    rw (sym c.is_idle.ensures ∙ c.if-not-is_idle.false, sym c.self.view_is, c.note_due.ensures, c.take_due-due.ensures.after) (
      ap Ok c.take_due-due.ensures.reply,
      ap (λ m. record old { workers = after_due old.workers c.args.worker m; contexts = after_take_due old.contexts c.args.worker.0 }) told,
    )

pub invariant_of-self : goal.invariant_of-self
invariant_of-self c = record {
  sound = (take_due_does _ _ _ _ (returns-clause-event c)).sound (subst IsSound c.self.view_is c.self.invariant.sound);
  tied = due_tied c.self.inside.contexts c.take_due-due.new.self c.self.inside.flow c.args.worker c.take_due-due.ensures.after c.self.invariant.tied;
}
