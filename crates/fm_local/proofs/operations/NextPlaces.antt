-- What a `next` gives is of the operation, and the worker is inside it then.
use Rattle.fm_local.proofs.Words.{⊤, ◌≡◌, Bool, Err, FlowAction, FlowRecord, InstanceId, None, Ok, OpId, Option, Params, Result, Some, Status}
use Rattle.fm_local.proofs.Words.{WorkerId, World, false, slice_get, true, worker_at, ◌==◌, ◌∙◌, ap, cond, option_map, refl, subst, sym, unwrap_or}
use Rattle.fm_local.proofs.Words.{call_fits, fit, ascend, call_base, call_post, call_pre, descend, give_post, may_take, next_at, next_of, is_number}
use Rattle.fm_local.proofs.Words.{Below, NextsAt, Unless, drains_at, Nexts, IsSound, Ask, FlowTable, Stage, changed, operation_at, owed, told}
use Rattle.fm_local.proofs.Words.{after_next, is_idle, Place}
use Rattle.std.specs.Prelude.{IfSome}
use Rattle.fm_types.proofs.Firsts.{find_changed, found_holds}
use Rattle.fm_types.proofs.Lists.{all_at}
use Rattle.fm_operations.proofs.Next.{next_stays}
use Rattle.fm_operations.specs.Sound as flow
use Rattle.fm_operations.specs.Steps.{unwound_to}
use Rattle.fm_local.specs.Places.{IsLent, IsOut}
use Rattle.fm_local.proofs.operations.Events.{lost, placed}
use Rattle.fm_local.proofs.operations.Fits.{call_fitting}

-- ---- of one operation

-- the data, or the call, is the operation's
abbrev Fits : Result FlowAction Status → FlowRecord → Type 0
Fits (Ok (FlowAction.Pre i lent)) r = fit r.operation r.path lent.received ≡ true
Fits (Ok (FlowAction.Base call)) r = call_fits r.operation r.volume r.path call ≡ true
Fits (Ok (FlowAction.Post i lent completion)) r = fit r.operation r.path lent.received ≡ true
Fits _ r = ⊤

module _ (k : WorkerId) where
  pre_fits : (i : InstanceId) (r : FlowRecord) (m : Option Params) → IfSome m (λ p. fit r.operation r.path p ≡ true)
      → Fits (call_pre k i r m).reply (call_pre k i r m).after
  pre_fits i r None h = tt
  pre_fits i r (Some p) h = h

  base_fits : (r : FlowRecord) (m : Option Params) → IfSome m (λ p. fit r.operation r.path p ≡ true) → Fits (call_base r m).reply (call_base r m).after
  base_fits r None h = tt
  base_fits r (Some p) h = call_fitting r p h

  given_fits : (ask : Ask) (r : FlowRecord) (m : Option Params) → IfSome m (λ p. fit r.operation r.path p ≡ true)
      → Fits (give_post k ask r m).reply (give_post k ask r m).after
  given_fits ask r None h = tt
  given_fits ask r (Some p) h = h

  -- with its parameters as they are, or put back to some that were kept
  unwound_fits : (ask : Ask) (r : FlowRecord) → flow.IsSound r → (m : Option Params) → slice_get r.kept ask.place ≡ m
      → Fits (give_post k ask (unwound_to ask.place r m) (unwound_to ask.place r m).params).reply
      (give_post k ask (unwound_to ask.place r m) (unwound_to ask.place r m).params).after
  unwound_fits ask r sound None at = given_fits ask r r.params sound.params
  unwound_fits ask r sound (Some p) at =
      given_fits ask (unwound_to ask.place r (Some p)) (Some p) (all_at (λ q. fit r.operation r.path q ≡ true) r.kept ask.place p sound.kept at)

  up_fits : (stops : Bool) (r : FlowRecord) → flow.IsSound r → (m : Option Ask) → Fits (ascend k stops r m).reply (ascend k stops r m).after
  up_fits stops r sound None = tt
  up_fits true r sound (Some ask) = tt
  up_fits false r sound (Some ask) = by_worker (may_take k ask)
    where
      by_worker : (b : Bool) → Fits (cond b (call_post k ask r) (record { reply = Err Status.WrongStep; after = r })).reply
          (cond b (call_post k ask r) (record { reply = Err Status.WrongStep; after = r })).after
      by_worker true = unwound_fits ask r sound (slice_get r.kept ask.place) refl
      by_worker false = tt

  down_fits : (lies : Below) (r : FlowRecord) → flow.IsSound r → Fits (descend k lies r).reply (descend k lies r).after
  down_fits (Below.Instance i true) r sound = pre_fits i r r.params sound.params
  down_fits (Below.Instance i false) r sound = tt
  down_fits Below.Call r sound = base_fits r r.params sound.params
  down_fits (Below.Known why) r sound = tt

  at_fits : (lies : Below) (stops : Bool) (r : FlowRecord) → flow.IsSound r → (s : Stage)
      → Fits (next_at k lies stops r s).reply (next_at k lies stops r s).after
  at_fits lies stops r sound Stage.Descending = down_fits lies r sound
  at_fits lies stops r sound Stage.PreRunning = tt
  at_fits lies stops r sound Stage.PreHeld = tt
  at_fits lies stops r sound Stage.InBase = tt
  at_fits lies stops r sound Stage.Ascending = up_fits stops r sound (slice_get (owed r.entries) 0)
  at_fits lies stops r sound Stage.PostRunning = tt
  at_fits lies stops r sound Stage.PostHeld = tt
  at_fits lies stops r sound (Stage.InDrain i) = tt

  turned_fits : (lies : Below) (stops : Bool) (r : FlowRecord) → flow.IsSound r → Fits (next_of k lies stops r).reply (next_of k lies stops r).after
  turned_fits lies stops r sound = by_collected r.collected
    where
      by_collected : (b : Bool) → Fits (cond b (record { reply = Err Status.WrongStep; after = r })
          (next_at k lies stops r r.stage)).reply (cond b (record { reply = Err Status.WrongStep; after = r })
          (next_at k lies stops r r.stage)).after
      by_collected true = tt
      by_collected false = at_fits lies stops r sound r.stage

-- ---- of the operation with that number

module _ (k : WorkerId) (o : OpId) where
  told_now : {A : Type 0} (f : FlowRecord → A) (otherwise : A) (t : FlowTable) (r : FlowRecord) → operation_at o t ≡ Some r → told f otherwise o t ≡ f r
  told_now f otherwise t r there = ap (λ (m : Option FlowRecord). unwrap_or (option_map f m) otherwise) there

  -- the worker went where it was sent
  sent : (old new : World) (said : Result FlowAction Status) → IsOut k old → new.workers ≡ after_next old.workers k o said
      → (r : FlowRecord) → operation_at o new.flow ≡ Some r → Fits said r
      → IsLent k o said new
  sent old new (Ok (FlowAction.Pre i lent)) out goes r there fits = (
    ap (λ ws. worker_at ws k) goes ∙ placed old.workers k Place.Idle (Place.Pre o i) out,
    told_now (λ r. fit r.operation r.path lent.received) false new.flow r there ∙ fits,
  )
  sent old new (Ok (FlowAction.Base call)) out goes r there fits = (
    ap (λ ws. worker_at ws k) goes ∙ placed old.workers k Place.Idle (Place.Base o) out,
    told_now (λ r. call_fits r.operation r.volume r.path call) false new.flow r there ∙ fits,
  )
  sent old new (Ok (FlowAction.Post i lent completion)) out goes r there fits = (
    ap (λ ws. worker_at ws k) goes ∙ placed old.workers k Place.Idle (Place.Post o i) out,
    told_now (λ r. fit r.operation r.path lent.received) false new.flow r there ∙ fits,
  )
  sent old new (Ok (FlowAction.Drain i completion)) out goes r there fits = ap (λ ws. worker_at ws k) goes
      ∙ placed old.workers k Place.Idle (Place.Drain o i) out
  sent old new (Ok FlowAction.Moved) out goes r there fits = ap (λ ws. worker_at ws k) goes ∙ out
  sent old new (Ok FlowAction.Held) out goes r there fits = ap (λ ws. worker_at ws k) goes ∙ out
  sent old new (Ok FlowAction.Done) out goes r there fits = ap (λ ws. worker_at ws k) goes ∙ out
  sent old new (Err why) out goes r there fits = ap (λ ws. worker_at ws k) goes ∙ out

  module _ (old : World) (sound : IsSound old) (out : IsOut k old) (said : Result FlowAction Status) (new : World) where
    abbrev step : Below → FlowRecord → FlowRecord
    step lies r = (next_of k lies (drains_at old o) r).after

    -- an operation that isn't there is refused
    by_record : (lies : Below) (m : Option FlowRecord) → operation_at o old.flow ≡ m → new.flow ≡ changed o (step lies) old.flow
        → new.workers ≡ after_next old.workers k o said
        → said ≡ unwrap_or (option_map (λ r. (next_of k lies (drains_at old o) r).reply) m) (Err Status.WrongStep) → IsLent k o said new
    by_record lies None at flows goes is =
        subst (λ (s : Result FlowAction Status). IsLent k o s new) (sym is) (ap (λ ws. worker_at ws k) (goes ∙ ap (after_next old.workers k o) is) ∙ out)
    by_record lies (Some r) at flows goes is =
        let there : operation_at o new.flow ≡ Some (step lies r) =
        ap (operation_at o) flows ∙ find_changed (is_number o) (step lies) old.flow.operations
        (λ r. ap (λ n. n == o.0) (next_stays k lies (drains_at old o) r).number) ∙ ap (option_map (step lies)) at in
        let fits : Fits (next_of k lies (drains_at old o) r).reply (step lies r) =
        turned_fits k lies (drains_at old o) r (found_holds flow.IsSound (is_number o) old.flow.operations r sound.under_way.flow.sound at) in
        sent old new said out goes (step lies r) there (subst (λ (s : Result FlowAction Status). Fits s (step lies r)) (sym is) fits)

    pub lent : Nexts old k o said new → IsLent k o said new
    unfolding Nexts
    lent h =
        let at : NextsAt old k o said new = subst (λ (b : Bool). Unless Status.WrongStep b said old new (NextsAt old k o said new)) (ap is_idle out) h in
        let same = lost said at.0 at.2 new at.4 in
        by_record at.0 (operation_at o old.flow) refl (same.flow ∙ ap (λ (w : World). w.flow) at.3.1) (same.workers
        ∙ ap (λ (w : World). w.workers) at.3.1) at.3.0
