-- Where workers are.
use Rattle.std.specs.Prelude.{ℕ, ◌==◌, Bool, true, false, List, count_by, Option, Some, None, slice_get, slice_set, Result, Ok, Err}
use Rattle.std.specs.List.{list_any}
use Rattle.fm_world.specs.Words.{WorkerId, CtxId, OpId, InstanceId, FilterId, Status, FlowAction}
use Rattle.fm_operations.specs.declared.action.FlowAction.TheVariants as action
use Rattle.fm_world.specs.declared.place.Place.{Place}
use Rattle.fm_world.specs.declared.place.Place.TheVariants as place

-- the place of a worker, if there is such a worker
abbrev pub worker_at : List Place → WorkerId → Option Place
worker_at workers k = slice_get workers k.0

abbrev pub put : List Place → WorkerId → Place → List Place
put workers k where' = slice_set workers k.0 where'

-- a worker that is there and idle
abbrev pub is_idle : Option Place → Bool
is_idle (Some place.Idle) = true
is_idle _ = false

-- which context a worker cleans up
abbrev pub cleanup_in : Option Place → Option CtxId
cleanup_in (Some (place.Cleanup c)) = Some c
cleanup_in (Some place.Idle) = None
cleanup_in (Some (place.Setup i)) = None
cleanup_in (Some (place.Pre o i)) = None
cleanup_in (Some (place.Base o)) = None
cleanup_in (Some (place.Post o i)) = None
cleanup_in (Some (place.Drain o i)) = None
cleanup_in (Some (place.EarlyDrain o i)) = None
cleanup_in (Some (place.Query i)) = None
cleanup_in (Some (place.Start i)) = None
cleanup_in (Some (place.Complete i)) = None
cleanup_in (Some (place.Routine i file)) = None
cleanup_in (Some (place.Unload f)) = None
cleanup_in None = None

-- the workers after an attach: where it succeeds, this one is in the new instance's setup callback
abbrev pub after_attach : List Place → WorkerId → Result InstanceId Status → List Place
after_attach workers k (Ok i) = put workers k (place.Setup i)
after_attach workers k (Err status) = workers

-- the callbacks of an instance that don't belong to an operation, and its filter's routines
pub data InstanceCallback : Type 0 where
  AtSetup : InstanceCallback
  AtQuery : InstanceCallback
  AtStart : InstanceCallback
  AtComplete : InstanceCallback
  AtRoutine : InstanceCallback

-- a worker in the setup callback of that instance, in a query of it, in its teardown-start, in its teardown-complete, and in a routine of it
abbrev pub is_in_setup : ℕ → Place → Bool
is_in_setup i (place.Setup j) = j.0 == i
is_in_setup i _ = false

abbrev pub is_in_query : ℕ → Place → Bool
is_in_query i (place.Query j) = j.0 == i
is_in_query i _ = false

abbrev pub is_in_start : ℕ → Place → Bool
is_in_start i (place.Start j) = j.0 == i
is_in_start i _ = false

abbrev pub is_in_complete : ℕ → Place → Bool
is_in_complete i (place.Complete j) = j.0 == i
is_in_complete i _ = false

abbrev pub is_in_routine : ℕ → Place → Bool
is_in_routine i (place.Routine j file) = j.0 == i
is_in_routine i _ = false

-- one of these
abbrev pub is_at : InstanceCallback → ℕ → Place → Bool
is_at AtSetup i a = is_in_setup i a
is_at AtQuery i a = is_in_query i a
is_at AtStart i a = is_in_start i a
is_at AtComplete i a = is_in_complete i a
is_at AtRoutine i a = is_in_routine i a

-- how many workers are in routines of the instance
abbrev pub routines_at : InstanceId → List Place → ℕ
routines_at i workers = count_by (is_in_routine i.0) workers

-- a worker in an unload callback of that filter
abbrev pub is_in_unload : ℕ → Place → Bool
is_in_unload f (place.Unload g) = g.0 == f
is_in_unload f _ = false

-- whether a query of the instance runs, and an unload callback of the filter
abbrev pub is_queried : InstanceId → List Place → Bool
is_queried i workers = list_any (is_in_query i.0) workers

abbrev pub is_asked_to_unload : FilterId → List Place → Bool
is_asked_to_unload f workers = list_any (is_in_unload f.0) workers

-- the workers after an event that begins a callback: where it succeeds, this one is in it
abbrev pub after_entering : List Place → WorkerId → Place → Result (Unit {0}) Status → List Place
after_entering workers k where' (Ok done) = put workers k where'
after_entering workers k where' (Err status) = workers

-- a `next` that gives nothing to do: a filter holds the operation, or it is done, or the `next` is refused
abbrev pub gives_nothing : Result FlowAction Status → Bool
gives_nothing (Ok action.Held) = true
gives_nothing (Ok action.Done) = true
gives_nothing (Err status) = true
gives_nothing _ = false

-- the workers after a `next`: this one is inside the callback or the call that it was given
abbrev pub after_next : List Place → WorkerId → OpId → Result FlowAction Status → List Place
after_next workers k o (Ok (action.Pre i lent)) = put workers k (place.Pre o i)
after_next workers k o (Ok (action.Base call)) = put workers k (place.Base o)
after_next workers k o (Ok (action.Post i lent completion)) = put workers k (place.Post o i)
after_next workers k o (Ok (action.Drain i completion)) = put workers k (place.Drain o i)
after_next workers k o (Ok action.Moved) = workers
after_next workers k o (Ok action.Held) = workers
after_next workers k o (Ok action.Done) = workers
after_next workers k o (Err status) = workers
