-- What workers hold, counted: what a lock above the state rests on, which keeps a book of all hands without looking at any but its own.
use Rattle.std.specs.Prelude.{◌≡◌, ℕ, ◌+◌, List, length, sum_by, Option, Some, None, is_some, Result, Ok, Err}
use Rattle.fm_world.specs.Words.{CtxId, InstanceId, OpId, WorkerId, Status, one, hand_of, FlowAction}
use Rattle.fm_callback_data.specs.declared.verdict.Completion.{Completion}
use Rattle.fm_callback_data.specs.declared.verdict.PreVerdict.{PreVerdict}
use Rattle.fm_world.specs.Events.{sent_in, state_at}
use Rattle.fm_operations.specs.declared.action.FlowAction.TheVariants as action
use Rattle.fm_world.specs.declared.set_answer.SetAnswer.{SetAnswer}
use Rattle.fm_world.specs.declared.set_answer.SetAnswer.TheVariants as answer
use Rattle.fm_world.specs.declared.place.Place.{Place}
use Rattle.fm_world.specs.declared.place.Place.TheVariants as place
use Rattle.fm_world.specs.Workers.{InstanceCallback, AtSetup, AtQuery, AtStart, AtComplete, AtRoutine}
use Rattle.fm_world.specs.World.{World}

-- how many references a list of hands has in all
abbrev pub pairs_in : List (List CtxId) → ℕ
pairs_in hands = sum_by (λ (hand : List CtxId). length hand) hands

-- how many references a worker holds, and how many all workers hold
abbrev pub hand_len : ℕ → World → ℕ
hand_len k w = length (hand_of w.contexts.hands k)

abbrev pub worker_pairs : World → ℕ
worker_pairs w = pairs_in w.contexts.hands

-- what all workers hold together changed by what this one's hand changed by. (That no other hand changed follows from each event's own relation.)
abbrev pub OnlyHandOf : ℕ → World → World → Type 0
OnlyHandOf k old new = worker_pairs new + hand_len k old ≡ worker_pairs old + hand_len k new

-- no hand changed
abbrev pub KeepsHands : World → World → Type 0
KeepsHands old new = (k : ℕ) → OnlyHandOf k old new

-- what the event makes of its worker's number: so many more where it succeeds, and the same where it is refused
abbrev pub HoldsMore : {T : Type 0} → ℕ → Result T Status → (T → ℕ) → World → World → Type 0
HoldsMore k (Ok value) more old new = hand_len k new ≡ hand_len k old + more value
HoldsMore k (Err status) more old new = hand_len k new ≡ hand_len k old

-- so many fewer where it succeeds, and the same where it is refused
abbrev pub HoldsFewer : {T : Type 0} → ℕ → Result T Status → ℕ → World → World → Type 0
HoldsFewer k (Ok value) fewer old new = hand_len k new + fewer ≡ hand_len k old
HoldsFewer k (Err status) fewer old new = hand_len k new ≡ hand_len k old

-- none where it succeeds
abbrev pub HoldsNone : {T : Type 0} → ℕ → Result T Status → World → World → Type 0
HoldsNone k (Ok value) old new = hand_len k new ≡ 0
HoldsNone k (Err status) old new = hand_len k new ≡ hand_len k old

-- how many references come with what an event hands out: an old context, what set found, what a completion carries
abbrev pub given_with : Option CtxId → ℕ
given_with c = one (is_some c)

abbrev pub given_by_set : SetAnswer → ℕ
given_by_set (answer.Linked old) = given_with old
given_by_set (answer.AlreadyDefined old) = given_with old
given_by_set (answer.Refused status) = 0

abbrev pub given_by_next : FlowAction → ℕ
given_by_next (action.Post i lent completion) = given_with completion.context
given_by_next (action.Drain i completion) = given_with completion.context
given_by_next _ = 0

abbrev pub given_by_drain : Option (OpId × Completion) → ℕ
given_by_drain None = 0
given_by_drain (Some (o, completion)) = given_with completion.context

-- the end of such a callback, whatever its answer, leaves none
abbrev pub left_by : InstanceCallback → Option Place → ℕ → ℕ
left_by AtSetup (Some (place.Setup i)) n = 0
left_by AtQuery (Some (place.Query i)) n = 0
left_by AtStart (Some (place.Start i)) n = 0
left_by AtComplete (Some (place.Complete i)) n = 0
left_by AtRoutine (Some (place.Routine i file)) n = 0
left_by _ _ n = n

abbrev pub left_by_setup : Option Place → ℕ → ℕ
left_by_setup m n = left_by AtSetup m n

-- how many references a preoperation that is resumed sends along with its completion
abbrev pub taken_by_resume : World → WorkerId → OpId → PreVerdict → Option InstanceId → ℕ
taken_by_resume w k o given None = 0
taken_by_resume w k o given (Some i) = given_with (sent_in (state_at w k o i given))
