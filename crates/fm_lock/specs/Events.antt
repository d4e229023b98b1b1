-- One call on what the lock keeps is one event of the model.
use Rattle.std.specs.Prelude.{◌≡◌, ◌==◌, ◌&&◌, ℕ, Bool, true, false, not, Option, Some, None, is_none, Result, Ok, Err, MatchBool}
use Rattle.fm_types.specs.declared.ids.WorkerId.{WorkerId}
use Rattle.fm_types.specs.declared.status.Status.TheVariants as status
use Rattle.fm_world.specs.declared.refused.Refused.{Refused}
use Rattle.fm_world.specs.declared.step.Step.{Step}
use Rattle.fm_world.specs.declared.step.Step.TheVariants as step
use Rattle.fm_world.specs.declared.step.StepReply.{StepReply}
use Rattle.fm_world.specs.World.{World}
use Rattle.fm_world.specs.Hands.{hand_len}
use Rattle.fm_world.specs.Steps.{Steps}
use Rattle.fm_world.specs.StepHands.{worker_of, Holds}
use Rattle.fm_lock.specs.Views.{HandView, LockedView, IsTrueHand}

abbrev pub is_by : WorkerId → Option WorkerId → Bool
is_by k None = false
is_by k (Some j) = j.0 == k.0

-- the first refusal of all: nothing changes, and the event comes back
abbrev pub IsRefused : Step → Result StepReply (Refused Step) → Type 0
IsRefused s result = result ≡ Err (record { status = status.WrongStep; handed_back = s })

-- which hands are out and which filters are loaded stays
abbrev pub KeepsHired : LockedView → LockedView → Type 0
KeepsHired old new = (new.hired ≡ old.hired) × (new.loaded ≡ old.loaded)

-- the event is the model's; the hand is its worker's as before, and true
abbrev pub Made : Step → LockedView → HandView → Result StepReply (Refused Step) → LockedView → HandView → Type 0
Made s old hand (Ok answer) new after =
    Steps old.world s answer new.world × KeepsHired old new × (after.worker ≡ hand.worker) × IsTrueHand after new × Holds s answer hand.held after.held
Made s old hand (Err refused) new after = ⊥

-- by the hand of the worker that the event names, if its number is the state's
abbrev pub EventBy : Step → LockedView → HandView → Result StepReply (Refused Step) → LockedView → HandView → Type 0
EventBy s old hand result new after =
    MatchBool (is_by hand.worker (worker_of s) && (hand.held == hand_len hand.worker.0 old.world))
    (Made s old hand result new after)
    (IsRefused s result × (new ≡ old) × (after ≡ hand))

abbrev pub MadeAlone : Step → LockedView → Result StepReply (Refused Step) → LockedView → Type 0
MadeAlone s old (Ok answer) new = Steps old.world s answer new.world × KeepsHired old new
MadeAlone s old (Err refused) new = ⊥

-- an event with a call of its own: a filter registers by its name alone, which has to be that of one that was handed in, and a dismount begins by what a
-- look at a rundown gate made, which found the volume drained
abbrev pub has_own_call : Step → Bool
has_own_call (step.Register name registration) = true
has_own_call (step.StartDismount v) = true
has_own_call _ = false

-- by nobody's hand, if the event names no worker
abbrev pub EventAlone : Step → LockedView → Result StepReply (Refused Step) → LockedView → Type 0
EventAlone s old result new = MatchBool (is_none (worker_of s) && not (has_own_call s)) (MadeAlone s old result new) (IsRefused s result × (new ≡ old))

-- an event that hands data out or back: by the hand's worker, if its number is the state's, and else `wrong`
abbrev pub EventOr : {A : Type 0} → A → (WorkerId → World → A → World → Type 0) → LockedView → HandView → A → LockedView → HandView → Type 0
EventOr wrong Event old hand result new after =
    MatchBool (hand.held == hand_len hand.worker.0 old.world)
    (Event hand.worker old.world result new.world × KeepsHired old new × (after.worker ≡ hand.worker) × IsTrueHand after new)
    ((result ≡ wrong) × (new ≡ old) × (after ≡ hand))

-- what is known of an event outside the lock: the hand is its worker's as before, and its number changed as the answer says
abbrev pub HandAfter : Step → HandView → Result StepReply (Refused Step) → HandView → Type 0
HandAfter s hand (Ok answer) after = (after.worker ≡ hand.worker) × Holds s answer hand.held after.held
HandAfter s hand (Err refused) after = (refused ≡ record { status = status.WrongStep; handed_back = s }) × (after ≡ hand)

-- the same of a typed call, whose answer says what it makes of the hand's number
abbrev pub Holding : (ℕ → ℕ → Type 0) → HandView → HandView → Type 0
Holding Says before after = (after.worker ≡ before.worker) × Says before.held after.held
