-- Where the worker is: inside a callback while that runs, whatever it calls, and idle once it has returned.
use Rattle.std.specs.Prelude.{◌≡◌, Bool, Ok, Result, Some, false, true}
use Rattle.fm_local.specs.Words.{FlowAction, OpId, Params, Status, WorkerId, worker_at, World}
use Rattle.fm_callback_data.specs.Params.{call_fits, fit}
use Rattle.fm_operations.specs.Table.{told}
use Rattle.fm_world.specs.declared.place.Place.{Place}
use Rattle.fm_world.specs.Routines.{RoutineReturns}
use Rattle.fm_filter.specs.Standing.{standing_of}
use Rattle.fm_local.specs.declared.local_port.Work.{Work}

abbrev pub IsIn : WorkerId → Place → World → Type 0
IsIn k a w = worker_at w.workers k ≡ Some a

abbrev pub IsOut : WorkerId → World → Type 0
IsOut k w = IsIn k Place.Idle w

-- a worker that was there is idle
abbrev pub ComesOut : WorkerId → Place → World → World → Type 0
ComesOut k a old new = IsIn k a old → IsOut k new

-- an idle worker is idle again
abbrev pub StaysOut : WorkerId → World → World → Type 0
StaysOut k old new = IsOut k old → IsOut k new

-- a callback runs, which leaves what stands, and then the event comes that ends it
abbrev pub EndsFrom : World → (World → Type 0) → Type 0
EndsFrom old Ends = (before : World) × (standing_of before ≡ standing_of old) × Ends before

-- a work item ran once on what callbacks work on, which left what stands, and then its routine ended
abbrev pub WorksOnce : WorkerId → (Work → Work → Type 0) → Work → Work → Type 0
WorksOnce k works old new =
    (worked : Work) × works old worked × (standing_of worked.state ≡ standing_of old.state) × RoutineReturns worked.state k (Ok tt) new.state
    × (new ≡ record worked { state = new.state })

-- whether such parameters are of the operation
abbrev pub is_on : World → OpId → Params → Bool
is_on w o p = told (λ r. fit r.operation r.path p) false o w.flow

-- the worker is inside what an operation is to do next, with data that is of the operation; and idle where there is nothing to do
abbrev pub IsLent : WorkerId → OpId → Result FlowAction Status → World → Type 0
IsLent k o (Ok (FlowAction.Pre i lent)) w = IsIn k (Place.Pre o i) w × (is_on w o lent.received ≡ true)
IsLent k o (Ok (FlowAction.Base call)) w = IsIn k (Place.Base o) w × (told (λ r. call_fits r.operation r.volume r.path call) false o w.flow ≡ true)
IsLent k o (Ok (FlowAction.Post i lent completion)) w = IsIn k (Place.Post o i) w × (is_on w o lent.received ≡ true)
IsLent k o (Ok (FlowAction.Drain i completion)) w = IsIn k (Place.Drain o i) w
IsLent k o _ w = IsOut k w
