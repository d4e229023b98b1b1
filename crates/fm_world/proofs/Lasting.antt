-- Over lists of events: an id that was given isn't given again, and what was cleaned stays cleaned.
use Rattle.fm_world.proofs.Words.{first_placed, is_id-refl, places_cleaned, IsNew, due_of, emptied, taken_due, taken_of, context_at, Allocates, TakesDue}
use Rattle.fm_world.proofs.Words.{IsGone, IsSound, Run, Steps, Context, ContextKind, ContextTable, CtxId, Due, Slot, Status, WorkerId, cleaning_of, World}
use Rattle.fm_world.proofs.Words.{empty_world, Step, StepReply, Place, Err, IfOk, List, None, Ok, Option, Result, Some, [], ap, arith, inl, inr, length}
use Rattle.fm_world.proofs.Words.{option_and_then, option_map, refl, slice_get, subst, suc, sym, zero, ℕ, ◌<◌, ◌∙◌, ◌∷◌, ◌≡◌, ◌⊎◌, get_or-set_same, none-some}
use Rattle.fm_world.proofs.Words.{same_Some, slice_get_within}
use Rattle.fm_world.specs.Lasting.{Comes, ContextsLast, due_by, given_by}
use Rattle.fm_world.proofs.Cases.{by_option}
use Rattle.fm_world.proofs.Events.{idle_by, taken_by}
use Rattle.fm_world.proofs.Runs.{empty_sound, run_keeps, step_does, step_keeps}
use Rattle.fm_world.proofs.Staying.{Lasts, WasGiven, contexts_in, given_not_new, given_placed, given_there, slots_changed, still}

-- ---- what is given, and what is due

-- a context that is allocated is new, and was given from then on
allocated_new : (old : World) (k : WorkerId) (kind : ContextKind) (body : List ℕ) (result : Result CtxId Status) (new : World)
    → Allocates old k kind body result new
    → IfOk result (λ c. IsNew old.contexts.slots c × WasGiven new.contexts.slots c)
unfolding Allocates
allocated_new old k kind body result new h =
    taken_by (λ r w. IfOk r (λ c. IsNew old.contexts.slots c × WasGiven w.contexts.slots c)) old k result new _ _ h (λ why. tt)
    (λ at is c free e. (e.0, subst (λ (w : World). WasGiven w.contexts.slots c) (sym e.1) (given_placed old.contexts.slots c _ e.0)))

step_gives : (old : World) (s : Step) (r : StepReply) (new : World) (c : CtxId) → Steps old s r new → given_by s r ≡ Some c
    → IsNew old.contexts.slots c × WasGiven new.contexts.slots c
step_gives old s r new c h is = grind (arith, allocated_new)

-- a context that a worker cleans up isn't due
abbrev InCleanup : World → CtxId → Type 0
InCleanup w c = (k : ℕ) × (cleaning_of w.contexts.cleaning k ≡ Some c)

-- due or cleaned up in one place, once
not_due : (old : World) (c : CtxId) → IsSound old → InCleanup old c → slice_get old.contexts.due 0 ≡ Some c → ⊥
not_due old c s busy first =
    let within : busy.0 < length old.contexts.cleaning = cleaner_within old.contexts.cleaning busy.0 c busy.1 in
    let both = places_cleaned old.contexts.due old.contexts.cleaning busy.0 c within busy.1 c in
    grind (arith, first_placed, is_id-refl)
  where
    cleaner_within : (xs : List (Option CtxId)) (k : ℕ) (c : CtxId) → cleaning_of xs k ≡ Some c → k < length xs
    cleaner_within [] k c h = absurd (none-some c h)
    cleaner_within (x ∷ xs) zero c h = omega arith
    cleaner_within (x ∷ xs) (suc k) c h = let rest = cleaner_within xs k c h in omega (arith, rest)

-- a context that is being cleaned up, or is cleaned
abbrev CameDue : World → CtxId → Type 0
CameDue w c = WasGiven w.contexts.slots c × (IsGone w c ⊎ InCleanup w c)

due_stays : (old new : World) (c : CtxId) → Lasts old new → CameDue old c → CameDue new c
due_stays old new c last (was, inl gone) = let k = last.0 c was in (k.0, inl (k.1 gone))
due_stays old new c last (was, inr busy) = ((last.0 c was).0, elim (last.1 busy.0 c busy.1) [ inl still ↦ inr (busy.0, still) | inr gone ↦ inl gone ])

-- a worker that is handed a context cleans it up from then on, and it was neither cleaned nor being cleaned up
record IsHanded (old new : World) (c : CtxId) : Type 0 where
  came : CameDue new c
  fresh : CameDue old c → ⊥

reply_is : (slots : List Slot) (due : Due) (m : Option CtxId) → Some due ≡ option_and_then (λ (c : CtxId). option_map (due_of c) (context_at slots c)) m
    → (m ≡ Some due.id) × ((x : Context) × (context_at slots due.id ≡ Some x))
reply_is slots due None h = cc
reply_is slots due (Some c) h =
    by_option (λ o. Some due ≡ option_map (due_of c) o → (Some c ≡ Some due.id) × ((x : Context) × (context_at slots due.id ≡ Some x)))
    (context_at slots c) (λ none h. (cc))
    (λ x there h.
    let same : due.id ≡ c = ap (λ (d : Due). d.id) (same_Some due (due_of c x) h) in
    (ap (λ (d : CtxId). Some d) (sym same), (x, ap (context_at slots) same ∙ there))) h

taken_handed : (old : World) (k : WorkerId) (due : Due) (new : World) → TakesDue old k (Ok (Some due)) new → IsSound old → IsHanded old new due.id
unfolding TakesDue
taken_handed old k due new h s =
    idle_by (λ r w. r ≡ Ok (Some due) → IsHanded old w due.id) k (Ok (Some due)) old new _ h (λ why is. (cc)) (λ at e _.
    let reply = reply_is old.contexts.slots due (slice_get old.contexts.due 0) (ap reply_of e.0) in
    let t = taken_due old.contexts k.0 due.id in
    let made : new.contexts ≡ t = ap contexts_in e.1 ∙ ap (taken_of old.contexts k.0) reply.0 in
    let was = given_there old.contexts.slots due.id reply.1.0 reply.1.1 in
    let within : k.0 < length old.contexts.cleaning = subst (λ n. k.0 < n) (s.under_way.hands ∙ sym s.owned.lawful.cleaners)
    (slice_get_within old.workers k.0 Place.Idle at) in
    record {
      came = subst (λ (u : ContextTable). WasGiven u.slots due.id
          × ((context_at u.slots due.id ≡ None) ⊎ ((n : ℕ) × (cleaning_of u.cleaning n ≡ Some due.id)))) (sym made) (
            (slots_changed (option_map emptied) old.contexts.slots due.id refl due.id was).0,
            inr (k.0, get_or-set_same old.contexts.cleaning k.0 (Some due.id) None within),
          );
      fresh = λ came. elim came.1 [ inl gone ↦ none-some reply.1.0 (sym gone ∙ reply.1.1) | inr busy ↦ not_due old due.id s busy reply.0 ];
    }) refl
  where
    reply_of : Result (Option Due) Status → Option Due
    reply_of (Ok o) = o
    reply_of (Err why) = None

step_due : (old : World) (x : Step) (r : StepReply) (new : World) (c : CtxId) → Steps old x r new → due_by x r ≡ Some c → IsSound old → IsHanded old new c
step_due old x r new c h is s = grind (arith, taken_handed)

-- ---- lists of events

-- what each event keeps
abbrev Persists : (World → Type 0) → Type 0
Persists P = (old new : World) → Lasts old new → P old → P new

run_holds : (P : World → Type 0) → Persists P → (old : World) (steps : List Step) (replies : List StepReply) (new : World)
    → Run old steps replies new → IsSound old → P old → P new
run_holds P stays old [] [] new h s p = subst P (sym h) p
run_holds P stays old (x ∷ steps) (r ∷ replies) new h s p =
    run_holds P stays h.0 steps replies new h.2 (step_keeps old x r h.0 h.1 s) (stays old h.0 ((step_does old x r h.0 h.1).lasts s) p)
run_holds P stays old _ _ new h s p = absurd h

-- what an event makes so that says this of a context, and no event says it of a context of which it is so
record Marks (by : Step → StepReply → Option CtxId) (P : World → CtxId → Type 0) : Type 0 where
  stays : (c : CtxId) → Persists (λ w. P w c)
  makes : (old : World) (x : Step) (r : StepReply) (new : World) (c : CtxId) → Steps old x r new → IsSound old → by x r ≡ Some c → P new c
  fresh : (old : World) (x : Step) (r : StepReply) (new : World) (c : CtxId) → Steps old x r new → IsSound old → by x r ≡ Some c → P old c → ⊥

run_marks : (by : Step → StepReply → Option CtxId) (P : World → CtxId → Type 0) → Marks by P
    → (old : World) (steps : List Step) (replies : List StepReply) (new : World) (c : CtxId)
    → Run old steps replies new → IsSound old → Comes by steps replies c → P new c
run_marks by P m old (x ∷ steps) (r ∷ replies) new c h s (inl now) =
    run_holds (λ w. P w c) (m.stays c) h.0 steps replies new h.2 (step_keeps old x r h.0 h.1 s) (m.makes old x r h.0 c h.1 s now)
run_marks by P m old (x ∷ steps) (r ∷ replies) new c h s (inr later) = run_marks by P m h.0 steps replies new c h.2 (step_keeps old x r h.0 h.1 s) later
run_marks by P m old _ _ new c h s comes = absurd comes

never_again : (by : Step → StepReply → Option CtxId) (P : World → CtxId → Type 0) → Marks by P
    → (old : World) (steps : List Step) (replies : List StepReply) (new : World) (c : CtxId)
    → Run old steps replies new → IsSound old → P old c → Comes by steps replies c → ⊥
never_again by P m old (x ∷ steps) (r ∷ replies) new c h s p (inl now) = m.fresh old x r h.0 c h.1 s now p
never_again by P m old (x ∷ steps) (r ∷ replies) new c h s p (inr later) =
    never_again by P m h.0 steps replies new c h.2 (step_keeps old x r h.0 h.1 s) (m.stays c old h.0 ((step_does old x r h.0 h.1).lasts s) p) later
never_again by P m old _ _ new c h s p comes = comes

abbrev GivenIn : World → CtxId → Type 0
GivenIn w c = WasGiven w.contexts.slots c

gives : Marks given_by GivenIn
gives = record {
  stays = λ c old new last was. (last.0 c was).0;
  makes = λ old x r new c h s is. (step_gives old x r new c h is).1;
  fresh = λ old x r new c h s is was. given_not_new old.contexts.slots c was (step_gives old x r new c h is).0;
}

dues : Marks due_by CameDue
dues = record {
  stays = λ c old new last came. due_stays old new c last came;
  makes = λ old x r new c h s is. (step_due old x r new c h is s).came;
  fresh = λ old x r new c h s is came. (step_due old x r new c h is s).fresh came;
}

pub contexts_last : ContextsLast
contexts_last steps replies mid later answers new first then c =
    let sound = run_keeps empty_world steps replies mid first empty_sound in (
      λ given. never_again given_by GivenIn gives mid later answers new c then sound
          (run_marks given_by GivenIn gives empty_world steps replies mid c first empty_sound given),
      λ due. never_again due_by CameDue dues mid later answers new c then sound
          (run_marks due_by CameDue dues empty_world steps replies mid c first empty_sound due),
      λ given gone.
          let was = run_marks given_by GivenIn gives empty_world steps replies mid c first empty_sound given in (
            (run_holds (λ w. GivenIn w c × IsGone w c) (λ old new last p. let k = last.0 c p.0 in (k.0, k.1 p.1)) mid later answers new
                then sound (was, gone)).1,
            never_again due_by CameDue dues mid later answers new c then sound (was, inl gone),
          ),
    )
