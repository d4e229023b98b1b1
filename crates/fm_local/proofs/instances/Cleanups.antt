-- What is due is cleaned up, and nothing is due then.
use Rattle.fm_local.proofs.Words.{[], ◌∷◌, ◌≡◌, Bool, Err, List, None, Ok, Option, Result, Some, Status, WorkerId, World, false, length}
use Rattle.fm_local.proofs.Words.{option_and_then, slice_get, suc, true, worker_at, ℕ, ◌<◌, ◌∙◌, ap, arith, drop, is_some, option_map, refl, subst}
use Rattle.fm_local.proofs.Words.{sym, none-some, context_at, Unless, IsSound, ContextKind, CtxId, is_idle, Place, HasNoneDue}
use Rattle.fm_world.specs.Words.{Due}
use Rattle.fm_ctx.proofs.Lives.{due_there}
use Rattle.fm_ctx.specs.Cleanup.{due_of, due_reply}
use Rattle.fm_world.proofs.Cases.{some_of}
use Rattle.fm_world.specs.ContextEvents.{Cleans, CleansAt, TakesDue}
use Rattle.fm_local.specs.Cleanups.{CleansAll, CleansSome, MayReturn, cleaner_of}
use Rattle.fm_local.proofs.operations.Events.{placed}
use Rattle.fm_local.proofs.instances.Tidiness.{took}

none_first : {X : Type 0} (xs : List X) → slice_get xs 0 ≡ None → xs ≡ []
none_first [] h = refl
none_first (x ∷ xs) h = absurd (none-some x (sym h))

one_less : {X : Type 0} (xs : List X) (x : X) → slice_get xs 0 ≡ Some x → length xs ≡ suc (length (drop 1 xs))
one_less [] x h = absurd (none-some x h)
one_less (y ∷ ys) x h = refl

module _ {F : Type 0} (may : F → ContextKind → List ℕ → ℕ → Type 0) (filters : ℕ → Option F) (k : WorkerId) where
  -- ---- the next that is due

  pub cleans_one : (old mid new : World) (due : Due) (number : ℕ) (cleaned : Result (Unit {0}) Status) → IsSound old → TakesDue old k (Ok (Some due)) mid
      → MayReturn may (cleaner_of filters mid.stack due.owner) due number → Cleans mid k number cleaned new → CleansSome may filters k true old new
  unfolding Cleans
  cleans_one old mid new due number cleaned sound takes answers cleans = ((due, mid, number, cleaned, takes, answers, cleans), fewer)
    where
      fewer : length old.contexts.due ≡ suc (length new.contexts.due)
      fewer =
          let (c, at) = took old k (Ok (Some due)) mid sound takes in
          let in_cleanup = ap (λ ws. worker_at ws k) at.workers ∙ placed old.workers k Place.Idle (Place.Cleanup c) at.idle in
          let event : CleansAt mid k number cleaned new (Some (Place.Cleanup c)) = subst (CleansAt mid k number cleaned new) in_cleanup cleans in
          one_less old.contexts.due c at.first ∙ ap (λ xs. suc (length xs)) (sym (ap (λ (w : World). w.contexts.due) event.1 ∙ at.due))

  -- where the worker is idle and is told of none, none is due
  told_none : (old : World) → IsSound old → (m : Option CtxId) → slice_get old.contexts.due 0 ≡ m
      → ◌≡◌ {A = Result (Option Due) Status} (Ok None) (Ok (due_reply old.contexts)) → old.contexts.due ≡ []
  told_none old sound None none told = none_first old.contexts.due none
  told_none old sound (Some c) first told =
      let there = some_of is_some (context_at old.contexts.slots c) refl (due_there c sound.owned.lawful first) in
      let some = ap (option_and_then (λ d. option_map (due_of d) (context_at old.contexts.slots d))) first ∙ ap (option_map (due_of c)) there.1 in
      absurd (none-some (due_of c there.0) (ap value_in told ∙ some))
    where
      value_in : Result (Option Due) Status → Option Due
      value_in (Ok m) = m
      value_in (Err why) = None

  none_due : (old new : World) (Event : Type 0) → IsSound old → (b : Bool)
      → Unless {T = Option Due} Status.WrongStep b (Ok None) old new
      (◌≡◌ {A = Result (Option Due) Status} (Ok None) (Ok (due_reply old.contexts)) × Event)
      → b ≡ true → old.contexts.due ≡ []
  none_due old new Event sound true h is = told_none old sound (slice_get old.contexts.due 0) refl h.0
  none_due old new Event sound false h is = cc

  pub cleans_nothing : (old new : World) → IsSound old → TakesDue old k (Ok None) new → CleansSome may filters k false old new
  unfolding TakesDue
  cleans_nothing old new sound takes = (took old k (Ok None) new sound takes, none_due old new _ sound (is_idle (worker_at old.workers k)) takes)

  not_refused : (old new : World) (why : Status) (Event : Type 0) → (b : Bool)
      → Unless {T = Option Due} Status.WrongStep b (Err why) old new
      (◌≡◌ {A = Result (Option Due) Status} (Err why) (Ok (due_reply old.contexts)) × Event) → b ≡ true → old.contexts.due ≡ []
  not_refused old new why Event true h is = cc
  not_refused old new why Event false h is = cc

  pub cleans_refused : (old new : World) (why : Status) → IsSound old → TakesDue old k (Err why) new → CleansSome may filters k false old new
  unfolding TakesDue
  cleans_refused old new why sound takes = (took old k (Err why) new sound takes, not_refused old new why _ (is_idle (worker_at old.workers k)) takes)

  -- ---- one after the other

  pub cleans_none : (w : World) → CleansAll may filters k w w
  cleans_none w = (0, refl)

  pub cleans_more : (old mid new : World) → CleansAll may filters k old mid → CleansSome may filters k true mid new → CleansAll may filters k old new
  cleans_more old mid new (n, many) (one, fewer) = (suc n, (mid, many, one))

  pub cleans_end : (old mid new : World) → CleansAll may filters k old mid → CleansSome may filters k false mid new → CleansAll may filters k old new
  cleans_end old mid new all (same, none) = subst (CleansAll may filters k old) (sym same) all

  pub cleans_fewer : (mid new : World) → CleansSome may filters k true mid new → length new.contexts.due < length mid.contexts.due
  cleans_fewer mid new (one, fewer) = grind arith

  pub none_left : (mid new : World) → CleansSome may filters k false mid new → HasNoneDue k new
  none_left mid new (same, none) idle = ap (λ (w : World). w.contexts.due) same ∙ none (ap (λ (w : World). is_idle (worker_at w.workers k)) (sym same) ∙ idle)

pub ruleset cleaning = (cleans_one, cleans_nothing, cleans_refused)

pub ruleset cleaned_all = (cleans_none, cleans_more, cleans_end, cleans_fewer, none_left)
