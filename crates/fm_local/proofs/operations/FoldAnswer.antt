-- An operation that is carried to its end is answered by its fold.
use Rattle.fm_local.proofs.Words.{[], ◌∷◌, ◌≡◌, Answer, BaseCall, Bool, Completion, Data, Err, FlowAction, FlowRecord, List, None, Ok, OpId}
use Rattle.fm_local.proofs.Words.{Operation, Option, Params, PostVerdict, PreVerdict, Result, Some, StackWorld, Status, VolumeId, WorkerId, World}
use Rattle.fm_local.proofs.Words.{false, slice_get, suc, true, worker_at, zero, ℕ, ◌∙◌, ap, ap₂, cond, refl, subst, sym, ascend, call_base, call_post}
use Rattle.fm_local.proofs.Words.{call_pre, descend, give_post, may_take, next_at, next_of, turn, unwound, Below, Ascending, step_keeps, Nexts}
use Rattle.fm_local.proofs.Words.{IsSound, Ask, Descending, Stage, owed, Step, StepReply, Place, IsPlainFilter, Subject, Under, chain_of, NoneStops}
use Rattle.fm_local.proofs.Words.{under, Carries, Does, Turns, Visits}
use Rattle.fm_operations.specs.Steps.{Turned as Turn}
use Rattle.fm_local.specs.Left.{LeftOf}
use Rattle.fm_local.proofs.operations.Single.{Alone}
use Rattle.fm_local.proofs.operations.TurnFolds.{IsGoing, is_between, turn_leaves, has_params, calm_here}
use Rattle.fm_local.proofs.operations.Events.{next_leaves}
use Rattle.fm_local.proofs.operations.WholeTurns.{left_done}

module _ {F D : Type 0} (pre_may : F → Data → PreVerdict → Data → Type 0) (post_may : F → Data → Completion → PostVerdict → Data
    → Type 0) (is_quiet : F → Type 0)
    (carries : D → BaseCall → Answer → D → Type 0) (filters : ℕ → Option F) (plain : (n : ℕ) (f : F) → filters n ≡ Some f
    → IsPlainFilter pre_may post_may is_quiet f)
    (k : WorkerId) (o : OpId) (x : Subject) where
  -- what is done keeps what holds of every World
  done_sound : (reply : Result FlowAction Status) (mid : World) (d : D) (new : World) (e : D) → IsSound mid
      → Does pre_may post_may carries filters k o reply mid d new e → IsSound new
  done_sound (Ok (FlowAction.Pre i lent)) mid d new e sound h = step_keeps mid (Step.PreReturned k h.0 h.1) (StepReply.Done h.2) new h.5 sound
  done_sound (Ok (FlowAction.Base call)) mid d new e sound h = step_keeps mid (Step.BaseReturned k call h.0) (StepReply.Done h.1) new h.4 sound
  done_sound (Ok (FlowAction.Post i lent completion)) mid d new e sound h =
      step_keeps mid (Step.PostReturned k h.0 (Some h.1)) (StepReply.Done h.2) new h.5 sound
  done_sound (Ok FlowAction.Moved) mid d new e sound h = subst IsSound (sym h.0) sound
  done_sound _ mid d new e sound h = absurd h

  pub turn_sound : (old : World) (d : D) (new : World) (e : D) → IsSound old → Turns pre_may post_may carries filters k o old d new e → IsSound new
  turn_sound old d new e sound h = done_sound h.0 h.1 d new e (step_keeps old (Step.Next k o) (StepReply.Action h.0) h.1 h.2 sound) h.3

  module _ (s : StackWorld) (quiet : NoneStops s) where
    -- the end of the way: the answer that the record has is what was left of the fold
    pub record Ended (v : VolumeId) (born : ℕ) (operation : Operation) (r : FlowRecord) (old : World) (d : D) (new : World) (e : D) : Type 0 where
      pub last : FlowRecord
      pub alone : Alone o last new.flow
      pub idle : worker_at new.workers k ≡ Some Place.Idle
      pub ascends : last.stage ≡ Ascending
      pub owes : owed last.entries ≡ []
      pub uncollected : last.collected ≡ false
      pub stays : new.stack ≡ s
      pub sound : IsSound new
      pub left : LeftOf (chain_of pre_may post_may carries filters s x) (Visits s v born operation) r (under d old) last.answer (under e new)

    module _ (r : FlowRecord) (old : World) (d : D) (going : IsGoing k o x r old) (sound : IsSound old) (at_stack : old.stack ≡ s) where
      abbrev here : (p : Params) × (r.params ≡ Some p)
      here = has_params pre_may post_may is_quiet carries filters plain k o x s quiet r old d going sound at_stack

      -- on the way down there is more to do
      not_down : (lies : Below) → Ok FlowAction.Done ≡ (descend k lies r).reply → ⊥
      not_down (Below.Instance i true) h = let is = h ∙ ap (λ m. (call_pre k i r m).reply) here.1 in cc
      not_down (Below.Instance i false) h = cc
      not_down Below.Call h = let is = h ∙ ap (λ m. (call_base r m).reply) here.1 in cc
      not_down (Below.Known why) h = cc

      -- and so there is while a postoperation is owed
      not_given : (ask : Ask) (u : FlowRecord) (m : Option Params) → Ok FlowAction.Done ≡ (give_post k ask u m).reply → ⊥
      not_given ask u None h = cc
      not_given ask u (Some p) h = cc

      not_up : (ask : Ask) (b : Bool) → Ok FlowAction.Done ≡ (cond b (call_post k ask r) (turn (Err Status.WrongStep) r)).reply → ⊥
      not_up ask true h = not_given ask (unwound ask.place r) (unwound ask.place r).params h
      not_up ask false h = cc

      by_asks : (new : World) (e : D) → worker_at new.workers k ≡ Some Place.Idle → new.stack ≡ s → IsSound new
          → under e new ≡ under d old → r.stage ≡ Ascending → (asks : List Ask) → owed r.entries ≡ asks
          → Ok FlowAction.Done ≡ (ascend k false r (slice_get asks 0)).reply → Alone o (ascend k false r (slice_get asks 0)).after new.flow
          → Ended r.volume r.born r.operation r old d new e
      by_asks new e idle stack sound' ends st [] owes is alone = record {
        last = r;
        alone = alone;
        idle = idle;
        ascends = st;
        owes = owes;
        uncollected = going.uncollected;
        stays = stack;
        sound = sound';
        left = subst (λ (w : Under D). LeftOf (chain_of pre_may post_may carries filters s x) (Visits s r.volume r.born r.operation) r
            (under d old) r.answer w) (sym ends)
            (left_done (chain_of pre_may post_may carries filters s x) (Visits s r.volume r.born r.operation) r here.0 (under d old) here.1 st owes);
      }
      by_asks new e idle stack sound' ends st (ask ∷ rest) owes is alone = absurd (not_up ask (may_take k ask) is)

      by_stage : (new : World) (e : D) → worker_at new.workers k ≡ Some Place.Idle → new.stack ≡ s → IsSound new
          → under e new ≡ under d old → (t : Stage) → r.stage ≡ t → is_between t ≡ true → (lies : Below)
          → Ok FlowAction.Done ≡ (next_at k lies false r t).reply → Alone o (next_at k lies false r t).after new.flow
          → Ended r.volume r.born r.operation r old d new e
      by_stage new e idle stack sound' ends Descending st between lies is alone = absurd (not_down lies is)
      by_stage new e idle stack sound' ends Ascending st between lies is alone = by_asks new e idle stack sound' ends st (owed r.entries) refl is alone
      by_stage new e idle stack sound' ends _ st between lies is alone = cc

      ended_now : (new : World) (e : D) → Nexts old k o (Ok FlowAction.Done) new → e ≡ d → Ended r.volume r.born r.operation r old d new e
      ended_now new e h same =
          let n = next_leaves old k o r going.alone (Ok FlowAction.Done) new going.idle
          (calm_here pre_may post_may is_quiet carries filters plain k o x s quiet r old d going sound at_stack) h in
          let is : next_of k n.lies false r ≡ next_at k n.lies false r r.stage =
          ap (λ b. cond b (turn (Err Status.WrongStep) r) (next_at k n.lies false r r.stage)) going.uncollected in
          by_stage new e (ap (λ ws. worker_at ws k) n.workers ∙ going.idle) (n.stack ∙ at_stack)
          (step_keeps old (Step.Next k o) (StepReply.Action (Ok FlowAction.Done)) new h sound)
          (ap₂ (λ dev fs. record { device = dev; files = fs }) same n.files)
          r.stage refl going.between n.lies (n.said ∙ ap (λ (t : Turn). t.reply) is) (subst (λ (t : Turn). Alone o t.after new.flow) is n.alone)

    pub carried : (n : ℕ) (r : FlowRecord) (old : World) (d : D) → IsGoing k o x r old → IsSound old → old.stack ≡ s → (new : World) (e : D)
        → Carries pre_may post_may carries filters k o n old d new e → Ended r.volume r.born r.operation r old d new e
    carried zero r old d going sound at_stack new e h = ended_now r old d going sound at_stack new e h.0 h.1
    carried (suc n) r old d going sound at_stack new e h =
        let mid = h.0 in
        let t = turn_leaves pre_may post_may is_quiet carries filters plain k o x s quiet r old d going sound at_stack mid h.1 h.2 in
        let rest = carried n t.next mid h.1 t.going (turn_sound old d mid h.1 sound h.2) (t.stays ∙ at_stack) new e h.3 in
        let c = chain_of pre_may post_may carries filters s x in
        let kind : t.next.operation ≡ r.operation = t.going.on.kind ∙ sym going.on.kind in
        let later : LeftOf c (Visits s r.volume r.born r.operation) t.next (under h.1 mid) rest.last.answer (under e new) =
        subst (λ (a : Operation). LeftOf c (Visits s r.volume r.born a) t.next (under h.1 mid) rest.last.answer (under e new)) kind
        (subst (λ (b : ℕ). LeftOf c (Visits s r.volume b t.next.operation) t.next (under h.1 mid) rest.last.answer (under e new)) t.same.1
        (subst (λ (v : VolumeId). LeftOf c (Visits s v t.next.born t.next.operation) t.next (under h.1 mid) rest.last.answer
        (under e new)) t.same.0 rest.left)) in
        record {
          last = rest.last;
          alone = rest.alone;
          idle = rest.idle;
          ascends = rest.ascends;
          owes = rest.owes;
          uncollected = rest.uncollected;
          stays = rest.stays;
          sound = rest.sound;
          left = t.less.left rest.last.answer (under e new) later;
        }
