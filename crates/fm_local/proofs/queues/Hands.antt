-- What a callback's hand holds, and what each call of its port makes of it.
use Rattle.fm_local.proofs.Words.{[], ◌∷◌, ◌≡◌, ◌++◌, ◌<◌, ◌∙◌, ◌⊎◌, ◌&&◌, Bool, Err, InstanceId, List, None, Ok, OpId, Option, PreVerdict, Result, Some, Status, true, false}
use Rattle.fm_local.proofs.Words.{WorkerId, World, worker_at, ℕ, ap, arith, inl, inr, refl, context_at, state_at, none-some, same_Some, sym, subst, length, cond}
use Rattle.fm_local.proofs.Words.{ContextKind, CtxId, PreState, IsSound, Instance, FlowRecord, Operation, StackWorld, option_and_then, option_map, unwrap_or, slice_get, not}
use Rattle.fm_local.proofs.Words.{row_at, operation_at, LosesLinks, verdict_counted, has_post}
use Rattle.std.specs.Prelude.{slice_set}
use Rattle.std.proofs.lemmas.List.{get_or-set_same}
use Rattle.fm_types.specs.Refusals.{Answers, first_of}
use Rattle.fm_operations.specs.declared.hold.Hold.{Hold}
use Rattle.fm_ctx.specs.Bags.{hand_of, holds, is_hand_full, without}
use Rattle.fm_ctx.specs.Births.{allocated}
use Rattle.fm_ctx.specs.Links.{delete_after, delete_reply, holder, set_after, set_mode_after, set_mode_reply, set_reply, wanted}
use Rattle.fm_ctx.specs.References.{grabbed, released}
use Rattle.fm_ctx.specs.Table.{Context, ContextTable}
use Rattle.fm_ctx.specs.declared.object.Object.{Object}
use Rattle.fm_ctx.specs.declared.set_reply.SetMode.{SetMode}
use Rattle.fm_ctx.specs.declared.set_reply.SetMode.TheVariants.{Keep, Replace}
use Rattle.fm_ctx.specs.declared.set_reply.SetReply.TheVariants.{HandFull}
use Rattle.fm_world.proofs.Callbacks.{callback_parts}
use Rattle.fm_world.proofs.Events.{asked_by, taken_by}
use Rattle.fm_world.proofs.Resumes.{placed_below}
use Rattle.fm_world.specs.ContextEvents.{Allocates, Sets, Gets, Deletes, References, Releases, ReadsBody, WritesBody, Bumps, Callback, SetsIn}
use Rattle.fm_world.specs.ContextEvents.{InCallbackOf, SetsUnless, SetsOn, callback_of, context_by, object_for, set_answer, set_refused, there_at, with_contexts}
use Rattle.fm_world.specs.Events.{FindsHeld, FindsHeldAt, ResumesPost, ResumesPostAt, ResumesPre, ResumesPreAt, of_hand, sent, sent_in, state_given}
use Rattle.fm_world.specs.Owners.{file_of, owner_by, place_in}
use Rattle.fm_world.specs.World.{carries}
use Rattle.fm_world.specs.declared.set_answer.SetAnswer.{SetAnswer}
use Rattle.fm_filter.specs.Hands.{Gains, GainsOld, GainsSame, GainsSet, InHand, IsWanted, Loses, LosesHeld, LosesSent, more, sent_by}
use Rattle.fm_local.specs.Ports.{hand_at}

-- a worker in a callback has the hand of its number
there : (w : World) (k : WorkerId) (at : Callback) → callback_of w k ≡ Some at → hand_at w k ≡ Some (hand_of w.contexts.hands k.0)
there w k at e =
    let parts = callback_parts w.stack (file_of w.flow (worker_at w.workers k)) (place_in (worker_at w.workers k)) at e in
    ap (λ (p : Option InstanceId). option_map (λ (row : Instance). hand_of w.contexts.hands k.0) (option_and_then (row_at w.stack) p)) parts.0
    ∙ ap (option_map (λ (row : Instance). hand_of w.contexts.hands k.0)) parts.1

-- a worker in none has no hand to speak of
away : (w : World) (k : WorkerId) → callback_of w k ≡ None → hand_at w k ≡ None
away w k e = grind arith

-- a table with another hand
with_other : (w : World) (k : WorkerId) (at : Callback) (t : ContextTable) (hand : List CtxId) → IsSound w → callback_of w k ≡ Some at
    → t.hands ≡ slice_set w.contexts.hands k.0 hand
    → hand_at (with_contexts w t) k ≡ Some hand
with_other w k at t hand sound is e =
    let parts = callback_parts w.stack (file_of w.flow (worker_at w.workers k)) (place_in (worker_at w.workers k)) at is in
    let within = subst (λ n. k.0 < n) (sym sound.owned.lawful.workers) (placed_below w k at.instance parts.0 sound) in
    there (with_contexts w t) k at is
    ∙ ap (λ (h : List CtxId). Some h) (ap (λ (hands : List (List CtxId)). hand_of hands k.0) e ∙ get_or-set_same w.contexts.hands k.0 hand [] within)

pub keeps_sent : (m : Option CtxId) (hand : InHand) → LosesSent m hand hand
keeps_sent None hand = refl
keeps_sent (Some c) hand = inl refl

-- a verdict that counts sends along what the one that was given names, or nothing
sent_counted : (hand : List CtxId) (given : PreVerdict) (operation : Operation) (has : Bool)
    → (sent_in (verdict_counted (of_hand hand given) operation has) ≡ None) ⊎ (sent_in (verdict_counted (of_hand hand given) operation has) ≡ sent_by given)
sent_counted hand given operation has = grind arith

sent_there : (s : StackWorld) (hand : List CtxId) (i : InstanceId) (given : PreVerdict) (m : Option FlowRecord)
    → (sent_in (unwrap_or (option_map (state_given s hand i given) m) PreState.Passed) ≡ None)
    ⊎ (sent_in (unwrap_or (option_map (state_given s hand i given) m) PreState.Passed) ≡ sent_by given)
sent_there s hand i given None = inl refl
sent_there s hand i given (Some r) = sent_counted hand given r.operation (has_post s (slice_get s.instances i.0) r.operation)

none_wanted : (wants : Bool) → IsWanted wants None
none_wanted true = tt
none_wanted false = refl

-- an old one is told where it is wanted
wanted_by : (wants : Bool) (m : Option CtxId) → IsWanted wants (delete_reply wants m)
wanted_by true m = tt
wanted_by false None = refl
wanted_by false (Some c) = refl

module _ (old : World) (k : WorkerId) (new : World) (sound : IsSound old) where
  abbrev hand : List CtxId
  hand = hand_of old.contexts.hands k.0

  same : new ≡ old → hand_at new k ≡ hand_at old k
  same e = ap (λ w. hand_at w k) e

  -- one more in the hand
  gained : (at : Callback) (t : ContextTable) (c : CtxId) → callback_of old k ≡ Some at → new ≡ with_contexts old t
      → t.hands ≡ slice_set old.contexts.hands k.0 (hand ++ c ∷ [])
      → hand_at new k ≡ option_map (more (Some c)) (hand_at old k)
  gained at t c is e hands =
      ap (λ w. hand_at w k) e ∙ with_other old k at t (hand ++ c ∷ []) sound is hands ∙ sym (ap (option_map (more (Some c))) (there old k at is))

  -- the same in the hand
  rested : (at : Callback) (t : ContextTable) → callback_of old k ≡ Some at → new ≡ with_contexts old t → t.hands ≡ old.contexts.hands
      → hand_at new k ≡ option_map (more None) (hand_at old k)
  rested at t is e hands =
      ap (λ w. hand_at w k) e ∙ there (with_contexts old t) k at is
      ∙ ap (λ (h : List (List CtxId)). Some (hand_of h k.0)) hands ∙ sym (ap (option_map (more None)) (there old k at is))

  -- ---- contexts

  pub allocate_hand : (kind : ContextKind) (body : List ℕ) (result : Result CtxId Status) → Allocates old k kind body result new
      → Gains result (hand_at old k) (hand_at new k)
  unfolding Allocates
  allocate_hand kind body result h =
      taken_by (λ r w. w ≡ new → Gains r (hand_at old k) (hand_at new k)) old k result new _ _ h (λ why e. sym (ap (λ w. hand_at w k) e))
      (λ at is c none event e. gained at (allocated old.contexts k.0 c (context_by at kind body)) c is event.1 refl) refl

  pub get_hand : (kind : ContextKind) (result : Result CtxId Status) → Gets old k kind result new → Gains result (hand_at old k) (hand_at new k)
  unfolding Gets
  get_hand kind result h =
      asked_by (λ r w. w ≡ new → Gains r (hand_at old k) (hand_at new k)) old k result new _ _ h (λ why e. sym (ap (λ w. hand_at w k) e))
      (λ at is c none event e. gained at (grabbed old.contexts k.0 c) c is event.1 refl) refl

  deleted : (at : Callback) (wants : Bool) (m : Option CtxId) → callback_of old k ≡ Some at
      → new ≡ with_contexts old (delete_after (carries old) old.contexts k.0 wants m)
      → hand_at new k ≡ option_map (more (delete_reply wants m)) (hand_at old k)
  deleted at wants None is e = rested at _ is e refl
  deleted at true (Some c) is e = gained at _ c is e refl
  deleted at false (Some c) is e = rested at _ is e refl

  pub delete_hand : (kind : ContextKind) (wants : Bool) (result : Result (Option CtxId) Status) → Deletes old k kind wants result new
      → GainsOld wants result (hand_at old k) (hand_at new k)
  unfolding Deletes
  delete_hand kind wants result h =
      asked_by (λ r w. w ≡ new → GainsOld wants r (hand_at old k) (hand_at new k)) old k result new _ _ h (λ why e. sym (ap (λ w. hand_at w k) e))
      (λ at is c none event e. (
        (λ hand said. subst (IsWanted wants) (sym event.0) (wanted_by wants (there_at old kind at))),
        deleted at wants (there_at old kind at) is event.1 ∙ ap (λ m. option_map (more m) (hand_at old k)) (sym event.0),
      )) refl

  pub reference_hand : (c : CtxId) (result : Result (Unit {0}) Status) → References old k c result new → GainsSame c result (hand_at old k) (hand_at new k)
  unfolding References
  reference_hand c result h =
      asked_by (λ r w. w ≡ new → GainsSame c r (hand_at old k) (hand_at new k)) old k result new _ _ h (λ why e. sym (ap (λ w. hand_at w k) e))
      (λ at is done none event e. gained at (grabbed old.contexts k.0 c) c is event refl) refl

  pub release_hand : (c : CtxId) (result : Result (Unit {0}) Status) → Releases old k c result new → Loses c result (hand_at old k) (hand_at new k)
  unfolding Releases
  release_hand c result h = by_callback (callback_of old k) refl h
    where
      t : ContextTable
      t = released (carries old) old.contexts k.0 c

      by_held : (at : Callback) (b : Bool) (result : Result (Unit {0}) Status) → callback_of old k ≡ Some at
          → Answers (first_of ((not b, Status.NotHeld) ∷ [])) result old new (λ _. new ≡ with_contexts old t) → LosesHeld c result hand (hand_at new k) b
      by_held at true (Ok done) is h = (refl, ap (λ w. hand_at w k) h.1 ∙ with_other old k at t (without c hand) sound is refl)
      by_held at true (Err why) is h = absurd (none-some why h.0)
      by_held at false (Ok done) is h = absurd (none-some Status.NotHeld (sym h.0))
      by_held at false (Err why) is h = (ap (λ s. Err s) (sym (same_Some Status.NotHeld why h.0)), same h.1 ∙ there old k at is)

      by_callback : (m : Option Callback) → callback_of old k ≡ m
          → InCallbackOf result old new (λ at. Answers (first_of ((not (holds hand c), Status.NotHeld) ∷ [])) result old new (λ _. new ≡ with_contexts old t)) m
          → Loses c result (hand_at old k) (hand_at new k)
      by_callback None is h = subst (λ (m : InHand). Loses c result m (hand_at new k)) (sym (away old k is)) (same h.1 ∙ away old k is)
      by_callback (Some at) is h = subst (λ (m : InHand). Loses c result m (hand_at new k)) (sym (there old k at is)) (by_held at (holds hand c) result is h)

  pub read_hand : (c : CtxId) (result : Result (List ℕ) Status) → ReadsBody old k c result new → hand_at new k ≡ hand_at old k
  unfolding ReadsBody
  read_hand c result h = taken_by (λ r w. w ≡ new → hand_at new k ≡ hand_at old k) old k result new _ _ h
      (λ why e. sym (ap (λ w. hand_at w k) e)) (λ at is v none event e. same event.1) refl

  pub write_hand : (c : CtxId) (bytes : List ℕ) (result : Result (Unit {0}) Status) → WritesBody old k c bytes result new → hand_at new k ≡ hand_at old k
  unfolding WritesBody
  write_hand c bytes result h =
      asked_by (λ r w. w ≡ new → hand_at new k ≡ hand_at old k) old k result new _ _ h (λ why e. sym (ap (λ w. hand_at w k) e))
      (λ at is v none event e. ap (λ w. hand_at w k) event) refl

  pub bump_hand : (c : CtxId) (place by : ℕ) (result : Result ℕ Status) → Bumps old k c place by result new → hand_at new k ≡ hand_at old k
  unfolding Bumps
  bump_hand c place by result h =
      asked_by (λ r w. w ≡ new → hand_at new k ≡ hand_at old k) old k result new _ _ h (λ why e. sym (ap (λ w. hand_at w k) e))
      (λ at is v none event e. ap (λ w. hand_at w k) event.1) refl

  module _ (at : Callback) (is : callback_of old k ≡ Some at) (c : CtxId) (object : Object) (wants : Bool) where
    by_mode : (o : CtxId) (mode : SetMode) (wants : Bool) → new ≡ with_contexts old (set_mode_after (carries old) old.contexts k.0 c object mode wants o)
        → GainsSet mode wants (set_answer (set_mode_reply mode (wanted wants o))) (hand_at old k) (hand_at new k)
    by_mode o Keep true e = ((λ hand said. tt), gained at _ o is e refl)
    by_mode o Keep false e = ((λ hand said. refl), rested at _ is e refl)
    by_mode o Replace true e = ((λ hand said. tt), (λ hand said. tt), gained at _ o is e refl)
    by_mode o Replace false e = ((λ hand said. tt), (λ hand said. refl), rested at _ is e refl)

    by_full : (o : CtxId) (mode : SetMode) (b : Bool) → new
        ≡ with_contexts old (cond b old.contexts (set_mode_after (carries old) old.contexts k.0 c object mode wants o))
        → GainsSet mode wants (set_answer (cond b HandFull (set_mode_reply mode (wanted wants o)))) (hand_at old k) (hand_at new k)
    by_full o mode true e = ap (λ w. hand_at w k) e
    by_full o mode false e = by_mode o mode wants e

    by_old : (mode : SetMode) (m : Option CtxId) → new ≡ with_contexts old (set_after (carries old) old.contexts k.0 c object mode wants m)
        → GainsSet mode wants (set_answer (set_reply old.contexts k.0 mode wants m)) (hand_at old k) (hand_at new k)
    by_old Keep None e = ((λ hand said. refl), (λ hand said. none_wanted wants), rested at _ is e refl)
    by_old Replace None e = ((λ hand said. tt), (λ hand said. none_wanted wants), rested at _ is e refl)
    by_old mode (Some o) e = by_full o mode (wants && is_hand_full old.contexts.hands k.0) e

  pub set_hand : (c : CtxId) (mode : SetMode) (wants : Bool) (result : SetAnswer) → Sets old k c mode wants result new
      → GainsSet mode wants result (hand_at old k) (hand_at new k)
  unfolding Sets
  set_hand c mode wants result h = by_callback (callback_of old k) refl h
    where
      Held : SetAnswer → Type 0
      Held r = GainsSet mode wants r (hand_at old k) (hand_at new k)

      by_object : (at : Callback) → callback_of old k ≡ Some at → (m : Option Context) (o : Option Object)
          → SetsOn old k c mode wants result new m o → Held result
      by_object at is (Some x) (Some object) h = subst Held (sym h.0) (by_old at is c object wants mode (holder old.contexts.slots x.owner object) h.1)
      by_object at is (Some x) None h = absurd h
      by_object at is None o h = absurd h

      by_refusal : (at : Callback) → callback_of old k ≡ Some at → (m : Option Status) → SetsUnless old k c mode wants result new at m → Held result
      by_refusal at is (Some why) h = subst Held (sym h.0) (same h.1)
      by_refusal at is None h = by_object at is (context_at old.contexts.slots c) (object_for at (context_at old.contexts.slots c)) h

      by_callback : (m : Option Callback) → callback_of old k ≡ m → SetsIn old k c mode wants result new m → Held result
      by_callback None is h = subst Held (sym h.0) (same h.1)
      by_callback (Some at) is h = by_refusal at is (set_refused old k c at) h

  -- ---- held operations

  pub find_hand : (kind : Hold) (result : Result (Option OpId) Status) → FindsHeld old k kind result new → hand_at new k ≡ hand_at old k
  unfolding FindsHeld
  find_hand kind result h = by_place (place_in (worker_at old.workers k)) h
    where
      by_place : (m : Option InstanceId) → FindsHeldAt old kind result new m → hand_at new k ≡ hand_at old k
      by_place None h = same h.1
      by_place (Some i) h = same h.3

  pub resume_post_hand : (o : OpId) (result : Result (Unit {0}) Status) → ResumesPost old k o result new → hand_at new k ≡ hand_at old k
  unfolding ResumesPost
  resume_post_hand o result h = by_place (place_in (worker_at old.workers k)) result h
    where
      by_place : (m : Option InstanceId) (result : Result (Unit {0}) Status) → ResumesPostAt old o result new m → hand_at new k ≡ hand_at old k
      by_place None result h = same h.1
      by_place (Some i) (Err why) h = same h.1
      by_place (Some i) (Ok done) h = ap (λ w. hand_at w k) h.1

  pub resume_pre_hand : (o : OpId) (given : PreVerdict) (result : Result (Unit {0}) Status) → ResumesPre old k o given result new
      → LosesSent (sent_by given) (hand_at old k) (hand_at new k)
  unfolding ResumesPre
  resume_pre_hand o given result h = by_place (place_in (worker_at old.workers k)) refl result h
    where
      rests : new ≡ old → LosesSent (sent_by given) (hand_at old k) (hand_at new k)
      rests e = subst (λ (m : InHand). LosesSent (sent_by given) (hand_at old k) m) (sym (same e)) (keeps_sent (sent_by given) (hand_at old k))

      by_place : (m : Option InstanceId) → place_in (worker_at old.workers k) ≡ m → (result : Result (Unit {0}) Status)
          → ResumesPreAt old k o given result new m
          → LosesSent (sent_by given) (hand_at old k) (hand_at new k)
      by_place None place result h = rests h.1
      by_place (Some i) place (Err why) h = rests h.1
      by_place (Some i) place (Ok done) h = by_sent (sent_in state) (sent_there old.stack hand i given (operation_at o old.flow)) refl
        where
          state : PreState
          state = state_at old k o i given

          within : k.0 < length old.contexts.hands
          within = subst (λ n. k.0 < n) (sym sound.owned.lawful.workers) (placed_below old k i place sound)

          row : Option Instance
          row = option_and_then (row_at old.stack) (place_in (worker_at old.workers k))

          by_hands : (hands : List (List CtxId)) → new.contexts.hands ≡ hands → hand_at new k ≡ option_map (λ (r : Instance). hand_of hands k.0) row
          by_hands hands e =
              ap (λ w. hand_at w k) h.1.1 ∙ ap (λ (hs : List (List CtxId)). option_map (λ (r : Instance). hand_of hs k.0) row) e

          lost : (c : CtxId) (m : Option Instance) → option_map (λ (r : Instance). without c hand) m
              ≡ option_map (without c) (option_map (λ (r : Instance). hand) m)
          lost c None = refl
          lost c (Some r) = refl

          by_sent : (m : Option CtxId) → (sent_in state ≡ None) ⊎ (sent_in state ≡ sent_by given) → sent_in state ≡ m
              → LosesSent (sent_by given) (hand_at old k) (hand_at new k)
          by_sent None cases is =
              subst (λ (x : InHand). LosesSent (sent_by given) (hand_at old k) x)
              (sym (by_hands old.contexts.hands (h.1.0.hands ∙ ap (λ (m : Option CtxId). (sent old.contexts k m).hands) is)))
              (keeps_sent (sent_by given) (hand_at old k))
          by_sent (Some c) (inl none) is = absurd (none-some c (sym none ∙ is))
          by_sent (Some c) (inr given_so) is =
              subst (λ (m : Option CtxId). LosesSent m (hand_at old k) (hand_at new k)) (sym is ∙ given_so)
              (inr (by_hands (slice_set old.contexts.hands k.0 (without c hand)) (h.1.0.hands ∙ ap (λ (m : Option CtxId). (sent old.contexts k m).hands) is)
              ∙ ap (λ (h : List CtxId). option_map (λ (r : Instance). h) row) (get_or-set_same old.contexts.hands k.0 (without c hand) [] within) ∙ lost c row))
