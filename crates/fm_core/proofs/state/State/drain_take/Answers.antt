use Rattle.fm_core.proofs.Words.{drains_in, the_view, DrainTaken, Ok, Some, ap, refl, subst, sym, true, ◌∙◌, ◌≡◌, row_at, IsSound, is_idle, worker_at}
use Rattle.fm_world.proofs.Draining.{drain_take_does}
use Rattle.fm_core.proofs.Cleaned.{phase_in}
use Rattle.fm_core.proofs.Drained.{take_brings, take_tied, frees, brought_table}
use Rattle.fm_core.proofs.state.State.drain_take.Goals.{In-Some}
use Rattle.fm_world.specs.EarlyDrains.{TakesDrain}
use Rattle.fm_core.proofs.state.State.drain_take.Goals as goal

idle : (c : In-Some) → is_idle (worker_at c.args.self.now.workers c.args.worker) ≡ true
idle c = sym c.is_idle.ensures ∙ c.if-not-is_idle.false

stands : (c : In-Some) → drains_in (phase_in (row_at (the_view c.self.inside).stack c.args.instance)) ≡ Ok true
stands c = ap drains_in (sym c.phase.ensures) ∙ sym c.in_ok-drains_in.ensures ∙ ap Ok c.if-not-branch.false

taken : (c : In-Some) → DrainTaken c.args.instance c.self.inside.flow (Some (c.in-Some.operation, c.in-Some.completion)) c.drain_take.new.self
taken c = subst (λ d. DrainTaken c.args.instance c.self.inside.flow d c.drain_take.new.self) c.in-Some.is c.drain_take.ensures

pub bring-requires : goal.bring-requires
bring-requires c =
    let at = (goal.at.bring-requires c).In-Some in
    take_brings c.args.worker c.args.instance c.in-Some.operation c.in-Some.completion c.drain_take.new.self c.self.invariant
    c.self.view_is (idle at) refl (taken at)

pub returns-clause-event : goal.returns-clause-event
unfolding TakesDrain
returns-clause-event c =
    let at = (goal.at.returns-clause-event c).In-Some in
    let free = frees (row_at (the_view c.self.inside).stack c.args.instance) true (stands at) in
    rw (idle at, sym c.self.view_is, free.1, c.put.ensures, c.bring.ensures, brought_table c.self.inside.contexts c.args.worker c.in-Some.completion.context)
    (free.0, (taken at, refl))

pub invariant_of-self-2 : goal.invariant_of-self-2
invariant_of-self-2 c = record {
  sound = (drain_take_does _ _ _ _ _ (returns-clause-event c)).0.sound (subst IsSound c.self.view_is c.self.invariant.sound);
  tied = take_tied c.args.worker c.args.instance c.in-Some.operation c.in-Some.completion c.drain_take.new.self c.bring.new.contexts c.self.invariant
      (taken (goal.at.invariant_of-self-2 c).In-Some) c.laws.ensures.matched c.bring.ensures;
}

pub returns-clause-hand : goal.returns-clause-hand
returns-clause-hand c = ((drain_take_does _ _ _ _ _ (returns-clause-event c)).1 (subst IsSound c.self.view_is c.self.invariant.sound)).0

pub returns-clause-held : goal.returns-clause-held
returns-clause-held c = ((drain_take_does _ _ _ _ _ (returns-clause-event c)).1 (subst IsSound c.self.view_is c.self.invariant.sound)).1
