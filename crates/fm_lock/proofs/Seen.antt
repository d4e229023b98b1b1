-- What is known of an event outside the lock.
use Rattle.fm_lock.specs.Events.{EventAlone, EventBy, HandAfter, IsRefused, Made, MadeAlone, is_by, has_own_call}
use Rattle.fm_lock.specs.Views.{HandView, LockedView}
use Rattle.fm_world.specs.Hands.{hand_len}
use Rattle.fm_world.specs.StepHands.{worker_of}
use Rattle.fm_operations.specs.Table.{collect_reply, operation_at}
use Rattle.fm_operations.specs.Record.{FlowRecord}
use Rattle.fm_world.specs.Events.{Collects}
use Rattle.fm_world.specs.Words.{Answer, OpId}
use Rattle.fm_world.specs.World.{World}
use Rattle.fm_world.specs.declared.refused.Refused.{Refused}
use Rattle.fm_world.specs.declared.step.Step.{Step}
use Rattle.fm_world.specs.declared.step.StepReply.{StepReply}
use Rattle.fm_types.specs.declared.status.Status.{Status}
use Rattle.std.proofs.Common.{Bool, Err, IfErr, MatchBool, None, Ok, Option, Result, Some, arith, false, is_none, not, option_map, subst, sym, true, unwrap_or, ◌&&◌, ◌==◌, ◌≡◌, refl}

seen_made : (s : Step) (old : LockedView) (hand : HandView) (result : Result StepReply (Refused Step)) (new : LockedView) (after : HandView)
    → Made s old hand result new after → HandAfter s hand result after
seen_made s old hand (Ok answer) new after h = (h.2, h.4)
seen_made s old hand (Err refused) new after h = absurd h

seen_refused : (s : Step) (hand : HandView) (result : Result StepReply (Refused Step)) (after : HandView) → IsRefused s result
    → after ≡ hand → HandAfter s hand result after
seen_refused s hand result after refused same = subst (λ r. HandAfter s hand r after) (sym refused) (refl, same)

seen_by : (b : Bool) (s : Step) (old : LockedView) (hand : HandView) (result : Result StepReply (Refused Step)) (new : LockedView) (after : HandView)
    → MatchBool b (Made s old hand result new after) (IsRefused s result × (new ≡ old) × (after ≡ hand)) → HandAfter s hand result after
seen_by true s old hand result new after h = seen_made s old hand result new after h
seen_by false s old hand result new after h = seen_refused s hand result after h.0 h.2

pub event_seen : (s : Step) (old : LockedView) (hand : HandView) (result : Result StepReply (Refused Step)) (new : LockedView) (after : HandView)
    → EventBy s old hand result new after → HandAfter s hand result after
event_seen s old hand result new after h =
    seen_by (is_by hand.worker (worker_of s) && (hand.held == hand_len hand.worker.0 old.world)) s old hand result new after h

-- an event that names no worker is never refused so
alone_by : (b : Bool) (s : Step) (old : LockedView) (result : Result StepReply (Refused Step)) (new : LockedView)
    → MatchBool b (MadeAlone s old result new) (IsRefused s result × (new ≡ old))
    → IfErr result (λ refused. refused ≡ record { status = Status.WrongStep; handed_back = s })
alone_by true s old (Ok answer) new h = tt
alone_by true s old (Err refused) new h = absurd h
alone_by false s old result new h = subst (λ r. IfErr r (λ refused. refused ≡ record { status = Status.WrongStep; handed_back = s })) (sym h.0) refl

pub alone_seen : (s : Step) (old : LockedView) (result : Result StepReply (Refused Step)) (new : LockedView) → EventAlone s old result new
    → IfErr result (λ refused. refused ≡ record { status = Status.WrongStep; handed_back = s })
alone_seen s old result new h = alone_by (is_none (worker_of s) && not (has_own_call s)) s old result new h

-- an answer that isn't handed out is refused so
collected_by : (m : Option FlowRecord) → IfErr (unwrap_or (option_map collect_reply m) (Err Status.WrongStep)) (λ status. status ≡ Status.WrongStep)
collected_by None = refl
collected_by (Some r) = grind arith

pub collect_refused : (old : World) (o : OpId) (result : Result Answer Status) (new : World) → Collects old o result new
    → IfErr result (λ status. status ≡ Status.WrongStep)
unfolding Collects
collect_refused old o result new h = subst (λ r. IfErr r (λ status. status ≡ Status.WrongStep)) (sym h.0) (collected_by (operation_at o old.flow))
