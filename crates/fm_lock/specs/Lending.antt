-- The events that lend data out, hand it back or are lent some, by a worker's hand: each the model's, if the hand's number is the state's; and else refused with
-- WrongStep, with nothing changed and the data handed back.
use Rattle.std.specs.Prelude.{ℕ, List, Option, Result, Err}
use Rattle.fm_core.specs.Returned.{status_of}
use Rattle.fm_callback_data.specs.Calls.{BaseCall}
use Rattle.fm_callback_data.specs.Data.{Data}
use Rattle.fm_callback_data.specs.declared.verdict.PostVerdict.{PostVerdict}
use Rattle.fm_callback_data.specs.declared.verdict.PreVerdict.{PreVerdict}
use Rattle.fm_lock.specs.Events.{EventOr}
use Rattle.fm_lock.specs.Views.{HandView, LockedView}
use Rattle.fm_types.specs.declared.status.Status.TheVariants as status
use Rattle.fm_world.specs.ContextEvents.{WritesBody}
use Rattle.fm_world.specs.Events.{BaseReturns, Nexts, PostReturns, PreReturns}
use Rattle.fm_world.specs.Words.{Answer, CtxId, FlowAction, OpId, Status}
use Rattle.fm_world.specs.declared.refused.Refused.{Refused}

-- refused before the event, with what was handed in
abbrev pub wrong : {A T : Type 0} → A → Result T (Refused A)
wrong given = Err (record { status = status.WrongStep; handed_back = given })

-- what the worker has to do next for an operation
abbrev pub NextsBy : OpId → LockedView → HandView → Result FlowAction Status → LockedView → HandView → Type 0
NextsBy o old hand result new after = EventOr (Err status.WrongStep) (λ worker before r later. Nexts before worker o r later) old hand result new after

-- the preoperation that the worker is in returns
abbrev pub PreReturnsBy : PreVerdict → Data → LockedView → HandView → Result (Unit {0}) (Refused Data) → LockedView → HandView → Type 0
PreReturnsBy verdict lent old hand result new after =
    EventOr (wrong lent) (λ worker before r later. PreReturns before worker verdict lent (status_of r) later) old hand result new after

-- the call of the base that the worker is in returns
abbrev pub BaseReturnsBy : BaseCall → Answer → LockedView → HandView → Result (Unit {0}) (Refused (BaseCall × Answer)) → LockedView → HandView → Type 0
BaseReturnsBy call given old hand result new after =
    EventOr (wrong (call, given)) (λ worker before r later. BaseReturns before worker call given (status_of r) later) old hand result new after

-- the postoperation or the drain that the worker is in returns
abbrev pub PostReturnsBy : PostVerdict → Option Data → LockedView → HandView → Result (Unit {0}) (Refused (Option Data)) → LockedView → HandView → Type 0
PostReturnsBy verdict lent old hand result new after =
    EventOr (wrong lent) (λ worker before r later. PostReturns before worker verdict lent (status_of r) later) old hand result new after

-- the bytes of a context that the worker has are replaced
abbrev pub WritesBodyBy : CtxId → List ℕ → LockedView → HandView → Result (Unit {0}) Status → LockedView → HandView → Type 0
WritesBodyBy context bytes old hand result new after =
    EventOr (Err status.WrongStep) (λ worker before r later. WritesBody before worker context bytes r later) old hand result new after
