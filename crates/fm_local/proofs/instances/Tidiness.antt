-- Cleanups leave all but contexts and totals.
use Rattle.fm_local.proofs.Words.{[], ◌∷◌, ◌≡◌, Err, List, None, Ok, Option, Result, Some, Status, WorkerId, World, option_and_then, slice_get, suc}
use Rattle.fm_local.proofs.Words.{worker_at, zero, ℕ, ◌++◌, ◌∙◌, ap, drop, is_some, option_map, refl, subst, sym, none-some, same_Some, context_at}
use Rattle.fm_local.proofs.Words.{idle_by, IsSound, CtxId, put, Step, StepReply, Place, Tidies}
use Rattle.fm_world.specs.Words.{Due}
use Rattle.std.specs.Prelude.{slice_set}
use Rattle.fm_ctx.proofs.Lives.{due_there}
use Rattle.fm_ctx.specs.Cleanup.{due_of, due_reply, taken_of, after_take_due}
use Rattle.fm_world.proofs.Cases.{some_of}
use Rattle.fm_world.specs.ContextEvents.{Cleans, CleansAt, after_due, TakesDue}
use Rattle.fm_world.specs.Steps.{Run}
use Rattle.fm_local.proofs.operations.Events.{placed}

-- ---- runs one after the other

run_then : (first second : List Step) (fr sr : List StepReply) (old mid new : World) → Run old first fr mid → Run mid second sr new
    → Run old (first ++ second) (fr ++ sr) new
run_then [] second [] sr old mid new before after = subst (λ (w : World). Run w second sr new) before after
run_then [] second (r ∷ fr) sr old mid new before after = absurd before
run_then (s ∷ first) second [] sr old mid new before after = absurd before
run_then (s ∷ first) second (r ∷ fr) sr old mid new (between, event, before) after =
    (between, event, run_then first second fr sr between mid new before after)

pub tidies_none : (w : World) → Tidies w w
tidies_none w = record { steps = []; replies = []; run = refl; stack = refl; flow = refl; workers = refl; files = refl }

pub tidies_both : (old mid new : World) → Tidies old mid → Tidies mid new → Tidies old new
tidies_both old mid new before after = record {
  steps = before.steps ++ after.steps;
  replies = before.replies ++ after.replies;
  run = run_then before.steps after.steps before.replies after.replies old mid new before.run after.run;
  stack = after.stack ∙ before.stack;
  flow = after.flow ∙ before.flow;
  workers = after.workers ∙ before.workers;
  files = after.files ∙ before.files;
}

tidies_same : (old new : World) → new ≡ old → Tidies old new
tidies_same old new same = subst (Tidies old) (sym same) (tidies_none old)

-- ---- one cleanup

-- what stood at a place is put back
pub set_back : {X : Type 0} (xs : List X) (n : ℕ) (was is : X) → slice_get xs n ≡ Some was → slice_set (slice_set xs n is) n was ≡ xs
set_back [] n was is there = absurd (none-some was there)
set_back (x ∷ xs) zero was is there = ap (λ y. y ∷ xs) (sym (same_Some x was there))
set_back (x ∷ xs) (suc n) was is there = ap (λ ys. x ∷ ys) (set_back xs n was is there)

-- an idle worker is in the cleanup of what was due; all else but contexts stays
pub record IsIn (old : World) (k : WorkerId) (c : CtxId) (mid : World) : Type 0 where
  pub idle : worker_at old.workers k ≡ Some Place.Idle
  pub workers : mid.workers ≡ put old.workers k (Place.Cleanup c)
  pub stack : mid.stack ≡ old.stack
  pub flow : mid.flow ≡ old.flow
  pub files : mid.files ≡ old.files
  pub first : slice_get old.contexts.due 0 ≡ Some c
  pub due : mid.contexts.due ≡ drop 1 old.contexts.due

-- or nothing changed, since nothing was due or the worker wasn't idle
abbrev pub Took : World → WorkerId → Result (Option Due) Status → World → Type 0
Took old k (Ok (Some due)) mid = (c : CtxId) × IsIn old k c mid
Took old k (Ok None) mid = mid ≡ old
Took old k (Err why) mid = mid ≡ old

module _ (old : World) (k : WorkerId) (result : Result (Option Due) Status) (mid : World) (sound : IsSound old) where
  took_first : (m : Option CtxId) → slice_get old.contexts.due 0 ≡ m → worker_at old.workers k ≡ Some Place.Idle → result ≡ Ok (due_reply old.contexts)
      → mid ≡ record old {
        workers = after_due old.workers k (slice_get old.contexts.due 0);
        contexts =
            after_take_due old.contexts k.0;
      } → Took old k result mid
  took_first None none idle says made =
      let told = ap (option_and_then (λ c. option_map (due_of c) (context_at old.contexts.slots c))) none in
      subst (λ (r : Result (Option Due) Status). Took old k r mid) (sym (says ∙ ap Ok told))
      (made ∙ ap (λ m. record old { workers = after_due old.workers k m; contexts = taken_of old.contexts k.0 m }) none)
  took_first (Some c) first idle says made =
      let there = some_of is_some (context_at old.contexts.slots c) refl (due_there c sound.owned.lawful first) in
      let told = ap (option_and_then (λ d. option_map (due_of d) (context_at old.contexts.slots d))) first ∙ ap (option_map (due_of c)) there.1 in
      subst (λ (r : Result (Option Due) Status). Took old k r mid) (sym (says ∙ ap Ok told)) (
        c,
        record {
          idle = idle;
          workers = ap (λ (w : World). w.workers) made ∙ ap (after_due old.workers k) first;
          stack = ap (λ (w : World). w.stack) made;
          flow = ap (λ (w : World). w.flow) made;
          files = ap (λ (w : World). w.files) made;
          first = first;
          due = ap (λ (w : World). w.contexts.due) made ∙ ap (λ m. (taken_of old.contexts k.0 m).due) first;
        },
      )

  pub took : TakesDue old k result mid → Took old k result mid
  unfolding TakesDue
  took takes = idle_by (Took old k) k result old mid _ takes (λ why. refl) (λ idle event. took_first (slice_get old.contexts.due 0) refl idle event.0 event.1)

pub tidies_nothing : (old : World) (k : WorkerId) (new : World) → IsSound old → TakesDue old k (Ok None) new → Tidies old new
tidies_nothing old k new sound takes = tidies_same old new (took old k (Ok None) new sound takes)

pub tidies_refused : (old : World) (k : WorkerId) (why : Status) (new : World) → IsSound old → TakesDue old k (Err why) new → Tidies old new
tidies_refused old k why new sound takes = tidies_same old new (took old k (Err why) new sound takes)

pub tidies_one : (old mid new : World) (k : WorkerId) (due : Due) (number : ℕ) (result : Result (Unit {0}) Status) → IsSound old
    → TakesDue old k (Ok (Some due)) mid → Cleans mid k number result new → Tidies old new
unfolding Cleans
tidies_one old mid new k due number result sound takes cleans =
    let (c, at) = took old k (Ok (Some due)) mid sound takes in
    let in_cleanup = ap (λ ws. worker_at ws k) at.workers ∙ placed old.workers k Place.Idle (Place.Cleanup c) at.idle in
    let event : CleansAt mid k number result new (Some (Place.Cleanup c)) = subst (CleansAt mid k number result new) in_cleanup cleans in
    let made = event.1 in
    record {
      steps = Step.TakeDue k ∷ Step.Cleaned k number ∷ [];
      replies = StepReply.Due (Ok (Some due)) ∷ StepReply.Done result ∷ [];
      run = (mid, takes, (new, cleans, refl));
      stack = ap (λ (w : World). w.stack) made ∙ at.stack;
      flow = ap (λ (w : World). w.flow) made ∙ at.flow;
      workers = ap (λ (w : World). w.workers) made ∙ ap (λ ws. put ws k Place.Idle) at.workers ∙ set_back old.workers k.0 Place.Idle (Place.Cleanup c) at.idle;
      files = ap (λ (w : World). w.files) made ∙ at.files;
    }

pub ruleset tidying = (tidies_one, tidies_nothing, tidies_refused)
