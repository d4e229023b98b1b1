-- A run of events goes on with one more.
use Rattle.fm_callback_data.specs.Calls.{BaseCall}
use Rattle.fm_callback_data.specs.Data.{Data}
use Rattle.fm_callback_data.specs.declared.answer.Answer.{Answer}
use Rattle.fm_callback_data.specs.declared.verdict.PostVerdict.{PostVerdict}
use Rattle.fm_callback_data.specs.declared.verdict.PreVerdict.{PreVerdict}
use Rattle.fm_lock.specs.Events.{EventAlone, EventBy, EventOr, IsRefused, KeepsHired, Made, MadeAlone, has_own_call, is_by}
use Rattle.fm_core.specs.Returned.{status_of}
use Rattle.fm_lock.specs.Lending.{BaseReturnsBy, NextsBy, PostReturnsBy, PreReturnsBy, WritesBodyBy, wrong}
use Rattle.fm_lock.specs.Runs.{IsAnswered, IsMade, IsMadeOr, IsRead, IsRun}
use Rattle.fm_lock.specs.Views.{HandView, IsTrueHand, LockedView}
use Rattle.fm_operations.specs.declared.action.FlowAction.{FlowAction}
use Rattle.fm_types.specs.declared.ids.CtxId.{CtxId}
use Rattle.fm_types.specs.declared.ids.FilterId.{FilterId}
use Rattle.fm_types.specs.declared.ids.OpId.{OpId}
use Rattle.fm_types.specs.declared.ids.VolumeId.{VolumeId}
use Rattle.fm_types.specs.declared.ids.WorkerId.{WorkerId}
use Rattle.fm_types.specs.declared.registration.Registration.{Registration}
use Rattle.fm_types.specs.declared.status.Status.{Status}
use Rattle.fm_world.specs.ContextEvents.{WritesBody}
use Rattle.fm_world.specs.Dismounts.{StartsDismount}
use Rattle.fm_world.specs.Events.{BaseReturns, Collects, Nexts, PostReturns, PreReturns, Registers}
use Rattle.fm_world.specs.Hands.{hand_len}
use Rattle.fm_world.specs.StepHands.{worker_of}
use Rattle.fm_world.specs.Steps.{Run, Steps}
use Rattle.fm_world.specs.World.{World, empty_world}
use Rattle.fm_world.specs.declared.refused.Refused.{Refused}
use Rattle.fm_world.specs.declared.step.Step.{Step}
use Rattle.fm_world.specs.declared.step.Step.TheVariants as step
use Rattle.fm_world.specs.declared.step.StepReply.{StepReply}
use Rattle.fm_world.specs.declared.step.StepReply.TheVariants as reply
use Rattle.std.proofs.Common.{Bool, Err, List, MatchBool, Ok, Option, Result, [], false, inl, inr, is_none, not, refl, subst, sym, true, ℕ, ◌&&◌, ◌++◌, ◌==◌, ◌∷◌, ◌≡◌}

run_more : (old : World) (steps : List Step) (replies : List StepReply) (mid : World) (s : Step) (r : StepReply) (new : World)
    → Run old steps replies mid → Steps mid s r new → Run old (steps ++ s ∷ []) (replies ++ r ∷ []) new
run_more old [] [] mid s r new h k = (new, subst (λ w. Steps w s r new) h k, refl)
run_more old (x ∷ steps) (y ∷ replies) mid s r new h k = (h.0, h.1, run_more h.0 steps replies mid s r new h.2 k)
run_more old _ _ mid s r new h k = absurd h

pub begins : IsRun empty_world
begins = ([], [], refl)

pub goes_on : (w : World) (s : Step) (r : StepReply) (new : World) → Steps w s r new → IsRun w → IsRun new
goes_on w s r new event run = (run.0 ++ s ∷ [], run.1 ++ r ∷ [], run_more empty_world run.0 run.1 w s r new run.2 event)

pub after_register : (w : World) (name : List ℕ) (registration : Registration) (r : Result FilterId Status) (new : World)
    → Registers w name registration r new → IsRun w → IsRun new
after_register w name registration r new event run = goes_on w (step.Register name registration) (reply.Filter r) new event run

pub after_dismount : (w : World) (v : VolumeId) (r : Result (Unit {0}) Status) (new : World) → StartsDismount w v r new → IsRun w → IsRun new
after_dismount w v r new event run = goes_on w (step.StartDismount v) (reply.Done r) new event run

pub after_collect : (w : World) (o : OpId) (r : Result Answer Status) (new : World) → Collects w o r new → IsRun w → IsRun new
after_collect w o r new event run = goes_on w (step.Collect o) (reply.Answer r) new event run

pub after_next : (w : World) (k : WorkerId) (o : OpId) (r : Result FlowAction Status) (new : World) → Nexts w k o r new → IsRun w → IsRun new
after_next w k o r new event run = goes_on w (step.Next k o) (reply.Action r) new event run

pub after_pre : (w : World) (k : WorkerId) (verdict : PreVerdict) (lent : Data) (r : Result (Unit {0}) Status) (new : World)
    → PreReturns w k verdict lent r new → IsRun w → IsRun new
after_pre w k verdict lent r new event run = goes_on w (step.PreReturned k verdict lent) (reply.Done r) new event run

pub after_base : (w : World) (k : WorkerId) (call : BaseCall) (given : Answer) (r : Result (Unit {0}) Status) (new : World)
    → BaseReturns w k call given r new → IsRun w → IsRun new
after_base w k call given r new event run = goes_on w (step.BaseReturned k call given) (reply.Done r) new event run

pub after_post : (w : World) (k : WorkerId) (verdict : PostVerdict) (lent : Option Data) (r : Result (Unit {0}) Status) (new : World)
    → PostReturns w k verdict lent r new → IsRun w → IsRun new
after_post w k verdict lent r new event run = goes_on w (step.PostReturned k verdict lent) (reply.Done r) new event run

pub after_write : (w : World) (k : WorkerId) (context : CtxId) (bytes : List ℕ) (r : Result (Unit {0}) Status) (new : World)
    → WritesBody w k context bytes r new → IsRun w → IsRun new
after_write w k context bytes r new event run = goes_on w (step.WriteBody k context bytes) (reply.Done r) new event run

made_by : (s : Step) (old : LockedView) (hand : HandView) (result : Result StepReply (Refused Step)) (new : LockedView) (after : HandView)
    → IsRun old.world → Made s old hand result new after → IsAnswered s result
made_by s old hand (Ok answer) new after run h = record { before = old.world; after = new.world; run = run; event = h.0 }
made_by s old hand (Err refused) new after run h = absurd h

answered_by : (b : Bool) (s : Step) (old : LockedView) (hand : HandView) (result : Result StepReply (Refused Step)) (new : LockedView) (after : HandView)
    → IsRun old.world → MatchBool b (Made s old hand result new after) (IsRefused s result × (new ≡ old) × (after ≡ hand)) → IsAnswered s result
answered_by true s old hand result new after run h = made_by s old hand result new after run h
answered_by false s old hand result new after run h = subst (λ r. IsAnswered s r) (sym h.0) refl

-- an event by a hand was made in a World that a run leads to
pub event_answered : (s : Step) (old : LockedView) (hand : HandView) (result : Result StepReply (Refused Step)) (new : LockedView) (after : HandView)
    → IsRun old.world → EventBy s old hand result new after → IsAnswered s result
event_answered s old hand result new after run h =
    answered_by (is_by hand.worker (worker_of s) && (hand.held == hand_len hand.worker.0 old.world)) s old hand result new after run h

alone_made : (s : Step) (old : LockedView) (result : Result StepReply (Refused Step)) (new : LockedView)
    → IsRun old.world → MadeAlone s old result new → IsAnswered s result
alone_made s old (Ok answer) new run h = record { before = old.world; after = new.world; run = run; event = h.0 }
alone_made s old (Err refused) new run h = absurd h

alone_by : (b : Bool) (s : Step) (old : LockedView) (result : Result StepReply (Refused Step)) (new : LockedView)
    → IsRun old.world → MatchBool b (MadeAlone s old result new) (IsRefused s result × (new ≡ old)) → IsAnswered s result
alone_by true s old result new run h = alone_made s old result new run h
alone_by false s old result new run h = subst (λ r. IsAnswered s r) (sym h.0) refl

-- and so was one that names no worker
pub alone_answered : (s : Step) (old : LockedView) (result : Result StepReply (Refused Step)) (new : LockedView)
    → IsRun old.world → EventAlone s old result new → IsAnswered s result
alone_answered s old result new run h = alone_by (is_none (worker_of s) && not (has_own_call s)) s old result new run h

-- an answer that is read off another one
pub read_off : {A : Type 0} (s : Step) (read : Result StepReply (Refused Step) → A) (given : Result StepReply (Refused Step)) (result : A)
    → IsAnswered s given → result ≡ read given → IsRead s read result
read_off s read given result made is = (given, made, is)

-- an event that was made
pub made : (w : World) (s : Step) (r : StepReply) (new : World) → IsRun w → Steps w s r new → IsMade s r
made w s r new run event = record { before = w; after = new; run = run; event = event }

or_by : {A : Type 0} (b : Bool) (refused : A) (E K W H N S : Type 0) (s : Step) (r : StepReply) (result : A) → (E → IsMade s r)
    → MatchBool b (E × K × W × H) ((result ≡ refused) × N × S) → IsMadeOr refused s r result
or_by true refused E K W H N S s r result makes h = inl (makes h.0)
or_by false refused E K W H N S s r result makes h = inr h.0

made_or : {A : Type 0} (refused : A) (Event : WorkerId → World → A → World → Type 0) (s : Step) (r : StepReply) (old : LockedView) (hand : HandView)
    (result : A) (new : LockedView) (after : HandView) → (Event hand.worker old.world result new.world → IsMade s r)
    → EventOr refused Event old hand result new after → IsMadeOr refused s r result
made_or refused Event s r old hand result new after makes h =
    or_by (hand.held == hand_len hand.worker.0 old.world) refused (Event hand.worker old.world result new.world)
    (KeepsHired old new) (after.worker ≡ hand.worker) (IsTrueHand after new) (new ≡ old) (after ≡ hand) s r result makes h

pub next_made : (o : OpId) (old : LockedView) (hand : HandView) (result : Result FlowAction Status) (new : LockedView) (after : HandView)
    → IsRun old.world → NextsBy o old hand result new after → IsMadeOr (Err Status.WrongStep) (step.Next hand.worker o) (reply.Action result) result
next_made o old hand result new after run h =
    made_or (Err Status.WrongStep) (λ worker before r later. Nexts before worker o r later) (step.Next hand.worker o) (reply.Action result) old hand
    result new after (made old.world (step.Next hand.worker o) (reply.Action result) new.world run) h

pub pre_made : (verdict : PreVerdict) (lent : Data) (old : LockedView) (hand : HandView) (result : Result (Unit {0}) (Refused Data)) (new : LockedView)
    (after : HandView) → IsRun old.world → PreReturnsBy verdict lent old hand result new after
    → IsMadeOr (wrong lent) (step.PreReturned hand.worker verdict lent) (reply.Done (status_of result)) result
pre_made verdict lent old hand result new after run h =
    made_or (wrong lent) (λ worker before r later. PreReturns before worker verdict lent (status_of r) later) (step.PreReturned hand.worker verdict lent) (reply.Done (status_of result)) old hand
    result new after (made old.world (step.PreReturned hand.worker verdict lent) (reply.Done (status_of result)) new.world run) h

pub base_made : (call : BaseCall) (given : Answer) (old : LockedView) (hand : HandView) (result : Result (Unit {0}) (Refused (BaseCall × Answer)))
    (new : LockedView) (after : HandView) → IsRun old.world → BaseReturnsBy call given old hand result new after
    → IsMadeOr (wrong (call, given)) (step.BaseReturned hand.worker call given) (reply.Done (status_of result)) result
base_made call given old hand result new after run h =
    made_or (wrong (call, given)) (λ worker before r later. BaseReturns before worker call given (status_of r) later) (step.BaseReturned hand.worker call given) (reply.Done (status_of result)) old hand
    result new after (made old.world (step.BaseReturned hand.worker call given) (reply.Done (status_of result)) new.world run) h

pub post_made : (verdict : PostVerdict) (lent : Option Data) (old : LockedView) (hand : HandView) (result : Result (Unit {0}) (Refused (Option Data)))
    (new : LockedView) (after : HandView) → IsRun old.world → PostReturnsBy verdict lent old hand result new after
    → IsMadeOr (wrong lent) (step.PostReturned hand.worker verdict lent) (reply.Done (status_of result)) result
post_made verdict lent old hand result new after run h =
    made_or (wrong lent) (λ worker before r later. PostReturns before worker verdict lent (status_of r) later) (step.PostReturned hand.worker verdict lent) (reply.Done (status_of result)) old hand
    result new after (made old.world (step.PostReturned hand.worker verdict lent) (reply.Done (status_of result)) new.world run) h

pub write_made : (context : CtxId) (bytes : List ℕ) (old : LockedView) (hand : HandView) (result : Result (Unit {0}) Status) (new : LockedView)
    (after : HandView) → IsRun old.world → WritesBodyBy context bytes old hand result new after
    → IsMadeOr (Err Status.WrongStep) (step.WriteBody hand.worker context bytes) (reply.Done result) result
write_made context bytes old hand result new after run h =
    made_or (Err Status.WrongStep) (λ worker before r later. WritesBody before worker context bytes r later) (step.WriteBody hand.worker context bytes) (reply.Done result) old hand
    result new after (made old.world (step.WriteBody hand.worker context bytes) (reply.Done result) new.world run) h

pub collect_made : (w : World) (o : OpId) (r : Result Answer Status) (new : World) → IsRun w → Collects w o r new → IsMade (step.Collect o) (reply.Answer r)
collect_made w o r new run event = made w (step.Collect o) (reply.Answer r) new run event

pub dismount_made : (w : World) (v : VolumeId) (r : Result (Unit {0}) Status) (new : World) → IsRun w → StartsDismount w v r new
    → IsMade (step.StartDismount v) (reply.Done r)
dismount_made w v r new run event = made w (step.StartDismount v) (reply.Done r) new run event

pub register_made : (w : World) (name : List ℕ) (registration : Registration) (r : Result FilterId Status) (new : World) → IsRun w
    → Registers w name registration r new → IsMade (step.Register name registration) (reply.Filter r)
register_made w name registration r new run event = made w (step.Register name registration) (reply.Filter r) new run event
