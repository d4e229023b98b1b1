-- How a manager's operations go on waiting, over the events that it makes and the callbacks that it runs.
use Rattle.fm_local.proofs.Words.{[], ◌∷◌, ◌≡◌, ◌⊎◌, Answer, Ask, Below, Bool, Err, FlowAction, FlowRecord, FlowTable, InstanceId, List, None, Ok, OpId, Option, Params, Request, Result, Some}
use Rattle.fm_local.proofs.Words.{Stage, Status, Turn, Place, WorkerId, World, ap, ascend, call_post, cond, drop, false, give_post, inl, inr, may_take, next_at, next_of, not, operation_at, option_map}
use Rattle.fm_local.proofs.Words.{owed, refl, same_Some, slice_get, subst, sym, told, true, turn, unwound, unwrap_or, ◌&&◌, ◌++◌, ◌∙◌, Begins, Collects, IsSound, Nexts, NextsAt, drains_at, idle_by, is_idle, worker_at, Unless}
use Rattle.fm_operations.specs.Steps.{done_at}
use Rattle.fm_operations.specs.Table.{is_collectable}
use Rattle.fm_filter.specs.Standing.{Kept}
use Rattle.fm_world.proofs.Events.{idle_there}
use Rattle.fm_world.proofs.Operations.{inside_drain, inside_post, inside_pre}
use Rattle.fm_local.specs.Actions.{ends_turn}
use Rattle.fm_local.specs.Callbacks.{CallsOnly, KeepsWaiting, LeavesStanding}
use Rattle.fm_local.specs.Managers.{IsQuietIn}
use Rattle.fm_local.specs.Places.{IsIn, IsLent}
use Rattle.fm_local.specs.declared.local_port.Work.{Work}
use Rattle.fm_local.specs.Waits.{IsEnded, IsGiven, Wait, is_among, is_between, is_loose, standing_with}
use Rattle.fm_local.proofs.queues.LooseOperations.{begins, busy_at, collects_other, nexts_ended, nexts_other}
use Rattle.fm_local.proofs.operations.DoneTurns.{down_goes}
use Rattle.fm_local.proofs.operations.NextPlaces.{lent}
use Rattle.fm_local.proofs.queues.Waits.{busy_apart, ended_fewer, ended_more, new_apart, not_in_fewer, others_wait, stands_alone, taken, waits_on, waits_standing}

pub same_flow : (t u : FlowTable) (resumed ended : List OpId) → u ≡ t → Wait t resumed ended → Wait u resumed ended
same_flow t u resumed ended same h = subst (λ (x : FlowTable). Wait x resumed ended) (sym same) h

-- ---- callbacks

-- what a callback leaves by what its port keeps
module _ (old new : Work) (k : WorkerId)
    (kept : ◌≡◌ {A = Kept} (record { worker = k; standing = Some (standing_with new.resumed.items.items new.state) })
    (record { worker = k; standing = Some (standing_with old.resumed.items.items old.state) })) where
  same : standing_with new.resumed.items.items new.state ≡ standing_with old.resumed.items.items old.state
  same = same_Some _ _ (ap (λ (x : Kept). x.standing) kept)

  pub leaves_standing : LeavesStanding old new
  leaves_standing = stands_alone old.state new.state old.resumed.items.items new.resumed.items.items same

  pub waits_still : KeepsWaiting old new
  waits_still ended h = waits_standing old.state new.state old.resumed.items.items new.resumed.items.items ended same h

pub calls_only : {F : Type 0} (is_quiet : F → Type 0) (filter : Option F) (old new : Work) (k : WorkerId) → (IsQuietIn is_quiet filter → new ≡ old)
    → ◌≡◌ {A = Kept} (record { worker = k; standing = Some (standing_with new.resumed.items.items new.state) })
    (record { worker = k; standing = Some (standing_with old.resumed.items.items old.state) })
    → CallsOnly is_quiet filter old new
calls_only is_quiet filter old new k quiet kept = record { quiet = quiet; far = leaves_standing old new k kept; waits = waits_still old new k kept }

-- an operation whose callback a worker is inside of isn't with nobody
busy : (w : World) (o : OpId) (r : FlowRecord) (s : Stage) → operation_at o w.flow ≡ Some r → r.stage ≡ s → is_between s ≡ false
    → told is_loose false o w.flow ≡ false
busy w o r s at stage between = ap (λ m. unwrap_or (option_map is_loose m) false) at ∙ busy_at s r stage between

module _ (w : World) (k : WorkerId) (o : OpId) (i : InstanceId) (resumed ended : List OpId) (sound : IsSound w) where
  pub pre_apart : IsIn k (Place.Pre o i) w → Wait w.flow resumed ended → (is_among o resumed ≡ false) × (is_among o ended ≡ false)
  pre_apart there h = let x = inside_pre w k o i there sound.under_way in
      busy_apart w.flow resumed ended o (busy w o x.0.row Stage.PreRunning x.0.at x.1 refl) h

  pub post_apart : IsIn k (Place.Post o i) w → Wait w.flow resumed ended → (is_among o resumed ≡ false) × (is_among o ended ≡ false)
  post_apart there h = let x = inside_post w k o i there sound.under_way in
      busy_apart w.flow resumed ended o (busy w o x.0.row Stage.PostRunning x.0.at x.1 refl) h

  pub drain_apart : IsIn k (Place.Drain o i) w → Wait w.flow resumed ended → (is_among o resumed ≡ false) × (is_among o ended ≡ false)
  drain_apart there h = let x = inside_drain w k o i there sound.under_way in
      busy_apart w.flow resumed ended o (busy w o x.0.row (Stage.InDrain i) x.0.at x.1 refl) h

-- ---- what is next

module _ (k : WorkerId) (o : OpId) (old : World) (said : Result FlowAction Status) (new : World) where
  pub nexts_wait : (resumed ended : List OpId) → Nexts old k o said new → is_among o resumed ≡ false → is_among o ended ≡ false
      → Wait old.flow resumed ended → Wait new.flow resumed ended
  nexts_wait resumed ended h going done waits = others_wait old.flow new.flow resumed ended o
      (λ p differ. nexts_other p old k o said new h differ) going done waits

  by_lent : (said : Result FlowAction Status) → IsLent k o said new → IsGiven k o said new
  by_lent (Ok (FlowAction.Pre i lent)) h = h.0
  by_lent (Ok (FlowAction.Post i lent completion)) h = h.0
  by_lent (Ok (FlowAction.Drain i completion)) h = h
  by_lent (Ok (FlowAction.Base call)) h = tt
  by_lent (Ok FlowAction.Moved) h = tt
  by_lent (Ok FlowAction.Held) h = tt
  by_lent (Ok FlowAction.Done) h = tt
  by_lent (Err why) h = tt

  not_given : (said : Result FlowAction Status) → said ≡ Err Status.WrongStep → IsGiven k o said new
  not_given (Err why) is = tt
  not_given (Ok action) is = cc

  pub given : IsSound old → Nexts old k o said new → IsGiven k o said new
  unfolding Nexts
  given sound h = by_idle (is_idle (worker_at old.workers k)) refl
    where
      by_idle : (b : Bool) → is_idle (worker_at old.workers k) ≡ b → IsGiven k o said new
      by_idle true idle = by_lent said (lent k o old sound (idle_there old.workers k idle) said new h)
      by_idle false busy = not_given said (subst (λ (b : Bool). Unless Status.WrongStep b said old new (NextsAt old k o said new)) busy h).0

  -- what is said to be done has ended
  given_goes : (ask : Ask) (r : FlowRecord) (m : Option Params) → Ok FlowAction.Done ≡ (give_post k ask r m).reply → ⊥
  given_goes ask r None h = cc
  given_goes ask r (Some p) h = cc

  done_record : (lies : Below) (stops : Bool) (r : FlowRecord) → Ok FlowAction.Done ≡ (next_of k lies stops r).reply → is_collectable r ≡ true
  done_record lies stops r h = by_collected r.collected h
    where
      by_take : (ask : Ask) (b : Bool) → Ok FlowAction.Done ≡ (cond b (call_post k ask r) (turn (Err Status.WrongStep) r)).reply → ⊥
      by_take ask true h = given_goes ask (unwound ask.place r) (unwound ask.place r).params h
      by_take ask false h = cc

      by_asks : (b : Bool) (asks : List Ask) → Ok FlowAction.Done ≡ (ascend k b r (slice_get asks 0)).reply → done_at Stage.Ascending asks ≡ true
      by_asks b [] h = refl
      by_asks true (ask ∷ asks) h = cc
      by_asks false (ask ∷ asks) h = absurd (by_take ask (may_take k ask) h)

      by_stage : (s : Stage) → Ok FlowAction.Done ≡ (next_at k lies stops r s).reply → done_at s (owed r.entries) ≡ true
      by_stage Stage.Descending h = absurd (down_goes k lies r h)
      by_stage Stage.Ascending h = by_asks stops (owed r.entries) h
      by_stage _ h = cc

      by_collected : (b : Bool) → Ok FlowAction.Done ≡ (cond b (turn (Err Status.WrongStep) r) (next_at k lies stops r r.stage)).reply
          → not b && done_at r.stage (owed r.entries) ≡ true
      by_collected true h = cc
      by_collected false h = by_stage r.stage h

  ended_before : Ok FlowAction.Done ≡ said → Nexts old k o said new → IsEnded old.flow o
  unfolding Nexts
  ended_before is h = idle_by (λ r w. Ok FlowAction.Done ≡ r → IsEnded old.flow o) k said old new _ h (λ why e. cc)
      (λ idle at e. by_record at.0 (operation_at o old.flow) (e ∙ at.3.0)) is
    where
      by_record : (lies : Below) (m : Option FlowRecord) → Ok FlowAction.Done
          ≡ unwrap_or (option_map (λ r. (next_of k lies (drains_at old o) r).reply) m) (Err Status.WrongStep)
          → unwrap_or (option_map is_collectable m) false ≡ true
      by_record lies None h = cc
      by_record lies (Some r) h = done_record lies (drains_at old o) r h

  says_so : (said : Result FlowAction Status) → Turn.Done ≡ ends_turn said → Ok FlowAction.Done ≡ said
  says_so (Ok FlowAction.Done) h = refl
  says_so (Ok (FlowAction.Pre i lent)) h = cc
  says_so (Ok (FlowAction.Base call)) h = cc
  says_so (Ok (FlowAction.Post i lent completion)) h = cc
  says_so (Ok (FlowAction.Drain i completion)) h = cc
  says_so (Ok FlowAction.Moved) h = cc
  says_so (Ok FlowAction.Held) h = cc
  says_so (Err why) h = cc

  pub done_said : Turn.Done ≡ ends_turn said → said ≡ Ok FlowAction.Done
  done_said is = sym (says_so said is)

  pub done_ended : said ≡ Ok FlowAction.Done → Nexts old k o said new → IsEnded new.flow o
  done_ended is h = nexts_ended o old k o said new h (ended_before (sym is) h)

-- ---- one begins, and one is handed out

pub begins_wait : (old : World) (what : Request) (result : Result OpId Status) (new : World) (resumed ended : List OpId)
    → Begins old what result new → Wait old.flow resumed ended → Wait new.flow resumed ended
begins_wait old what result new resumed ended h waits = waits_on old.flow new.flow resumed ended (λ p. begins p old what result new h) waits

pub begun_apart : (old : World) (what : Request) (o : OpId) (new : World) (resumed ended : List OpId) → IsSound old
    → Begins old what (Ok o) new → Wait old.flow resumed ended
    → (is_among o resumed ≡ false) × (is_among o ended ≡ false)
unfolding Begins
begun_apart old what o new resumed ended sound h waits = new_apart old.flow resumed ended o sound.under_way.flow h.1.0 waits

pub collects_wait : (old : World) (o : OpId) (result : Result Answer Status) (new : World) (resumed ended : List OpId)
    → Collects old o result new → is_among o resumed ≡ false → is_among o ended ≡ false
    → Wait old.flow resumed ended → Wait new.flow resumed ended
collects_wait old o result new resumed ended h going done waits =
    others_wait old.flow new.flow resumed ended o (λ p differ. collects_other p old o result new h differ) going done waits

-- ---- the queue of those that ended

pub put_waits : (t : FlowTable) (o : OpId) (resumed ended new : List OpId) → (new ≡ ended ++ o ∷ []) ⊎ (new ≡ drop 1 ended ++ o ∷ [])
    ⊎ (new ≡ drop 1 ended) → IsEnded t o
    → (is_among o resumed ≡ false) × (is_among o ended ≡ false) → Wait t resumed ended → Wait t resumed new
put_waits t o resumed ended new (inl e) is apart h = subst (Wait t resumed) (sym e) (ended_more t o resumed ended is apart.0 apart.1 h)
put_waits t o resumed ended new (inr (inl e)) is apart h =
    subst (Wait t resumed) (sym e) (ended_more t o resumed (drop 1 ended) is apart.0 (not_in_fewer o ended apart.1) (ended_fewer t resumed ended h))
put_waits t o resumed ended new (inr (inr e)) is apart h = subst (Wait t resumed) (sym e) (ended_fewer t resumed ended h)

-- ---- the first that was resumed

pub take_waits : (t : FlowTable) (o : OpId) (resumed left ended : List OpId) → resumed ≡ o ∷ left → Wait t resumed ended
    → Wait t left ended × (is_among o left ≡ false) × (is_among o ended ≡ false)
take_waits t o resumed left ended is h = taken t o left ended (subst (λ (os : List OpId). Wait t os ended) is h)

pub emptied_waits : (t : FlowTable) (resumed left ended : List OpId) → (resumed ≡ []) × (left ≡ []) → Wait t resumed ended → Wait t left ended
emptied_waits t resumed left ended is h = subst (λ (os : List OpId). Wait t os ended) (is.0 ∙ sym is.1) h

pub taken_waits : (t : FlowTable) (resumed left ended : List OpId) → left ≡ drop 1 resumed → Wait t resumed ended → Wait t left ended
taken_waits t [] left ended is h = emptied_waits t [] left ended (refl, is) h
taken_waits t (o ∷ os) left ended is h = (take_waits t o (o ∷ os) left ended (ap (λ (l : List OpId). o ∷ l) (sym is)) h).0
