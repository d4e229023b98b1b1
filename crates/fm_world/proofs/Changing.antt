-- An instance that holds an operation has other parameters go down: nobody goes anywhere, and nothing but these changes.
use Rattle.fm_world.proofs.Words.{drain_opens, is_creating, is_done, is_number, PreHeld, flight, lawful_alike, carried_by, owed, none_refuses, is_held_by, place_in}
use Rattle.fm_world.proofs.Words.{AskCarries, IsAmong, IsSound, IsUnderWay, CtxId, FlowRecord, InstanceId, OpId, Status, WorkerId, changed, worker_at, World, carries}
use Rattle.fm_world.proofs.Words.{carries_after, operation_at, told, All, Bool, None, Option, Result, Some, ap, arith, false, not, refl, subst, sym, true, ℕ, ◌+◌, ◌∙◌, ◌∷◌, ◌≡◌, []}
use Rattle.fm_callback_data.specs.declared.params.Params.{Params}
use Rattle.fm_operations.specs.declared.hold.Hold.{Hold}
use Rattle.fm_operations.specs.Steps.{changed_held, takes}
use Rattle.fm_operations.proofs.Holds.{held_pre}
use Rattle.fm_operations.proofs.Placing.{changed_keeps, changed_says, changed_stays, sound_changed}
use Rattle.fm_world.specs.Changes.{ChangesHeldAt, change_held_refused}
unfoldable use Rattle.fm_world.specs.Changes.{ChangesHeld}
use Rattle.fm_world.proofs.Asking.{goes_asked}
use Rattle.fm_world.proofs.Callbacks.{not_false}
use Rattle.fm_world.proofs.Events.{answers_by}
use Rattle.fm_world.proofs.Filed.{file_step}
use Rattle.fm_world.proofs.Flowing.{asks_of, carried_changed, carry_changed, flow_owned, quieter}
use Rattle.fm_world.proofs.Operations.{told_there, undone_at}
use Rattle.fm_world.proofs.Resumes.{held_by, step_stays}
use Rattle.fm_world.proofs.Staying.{Does, makes, nothing, still, unchanged}
use Rattle.fm_world.proofs.Ties.{is_running}

-- completions carry what they did
pub changed_balance : (w : World) (o : OpId) (i : InstanceId) (params : Params) → is_held_by w Hold.Pre o i ≡ true → IsUnderWay w → (c : CtxId)
    → carries_after w o (changed_held params) c ≡ carries w c
changed_balance w o i params held s c =
    let x = held_by w Hold.Pre o i s held in
    omega (
      arith,
      carried_changed w.flow o x.row (changed_held params) x.at c,
      changed_says (carried_by c) params x.row (λ m kept. refl),
    )

changed_sound : (old : World) (o : OpId) (i : InstanceId) (params : Params) → is_held_by old Hold.Pre o i ≡ true
    → told (takes params) false o old.flow ≡ true → IsSound old → IsSound (record old { flow = changed o (changed_held params) old.flow })
changed_sound old o i params held fits s =
    let x = held_by old Hold.Pre o i s.under_way held in
    let r = x.row in
    let stage = (held_pre i.0 r x.sound x.held).0 in
    let f = changed_held params in
    let own = sym (told_there (takes params) false o old.flow r x.at) ∙ fits in
    record {
      under_way = step_stays old o r f x.at (λ y. changed_stays params y) (sound_changed params r stage own x.sound)
          (undone_at r PreHeld stage refl)
          (changed_keeps (IsAmong old.stack) params r (λ m kept. x.among) x.among)
          (ap is_running stage) (changed_says (λ (y : FlowRecord). is_running y.stage) params r (λ m kept. refl) ∙ ap is_running stage)
          (λ j. changed_says (λ (y : FlowRecord). drain_opens j y.entries) params r (λ m kept. refl)) s.under_way;
      owned = flow_owned old (changed o f old.flow) (lawful_alike (λ c. sym (changed_balance old o i params held s.under_way c)) s.owned.lawful)
          (carry_changed old.stack old.contexts.slots old.flow o r f x.at
          (changed_keeps (λ (y : FlowRecord). All (AskCarries old.stack old.contexts.slots) (owed y.entries)) params r (λ m kept. asks_of old o r x.at s.owned)
          (asks_of old o r x.at s.owned)) s.owned.completions)
          (quieter old o r f x.at (λ j. omega (arith, changed_says (flight j) params r (λ m kept. refl))) s.owned.quiet) s.owned;
      begun = goes_asked old.stack old.flow o r f x.at (changed_says (λ (y : FlowRecord). y.below) params r (λ m kept. refl))
          (changed_says (λ (y : FlowRecord). y.collected) params r (λ m kept. refl)) s.begun;
      filed = file_step old.files old.flow o r f x.at (record {
        stream = changed_says (λ (y : FlowRecord). y.stream) params r (λ m kept. refl);
        handle = changed_says (λ (y : FlowRecord). y.handle) params r (λ m kept. refl);
        creating = changed_says is_creating params r (λ m kept. refl);
      }) s.filed;
      links = s.links;
    }

pub change_held_does : (old : World) (k : WorkerId) (o : OpId) (params : Params) (result : Result (Unit {0}) Status) (new : World)
    → ChangesHeld old k o params result new → Does old new
unfolding ChangesHeld
change_held_does old k o params result new h = by_place (place_in (worker_at old.workers k)) h
  where
    by_place : (p : Option InstanceId) → ChangesHeldAt old o params result new p → Does old new
    by_place None h = unchanged old new h.1
    by_place (Some i) h =
        answers_by (λ r w. Does old w) (change_held_refused old o i params) result old new _ h (λ why. nothing old) (λ done free e.
        let frees = none_refuses ((not (is_held_by old Hold.Pre o i), Status.NotPended) ∷ (not (told (takes params) false o old.flow), Status.BadRequest) ∷ []) free in
        makes old (record old { flow = changed o (changed_held params) old.flow }) new e (still old.contexts)
        (changed_sound old o i params (not_false (is_held_by old Hold.Pre o i) frees.0)
        (not_false (told (takes params) false o old.flow) frees.1.0)))
