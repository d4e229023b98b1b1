-- What a worker's place says: the callback or the call that it is inside of.
use Rattle.std.specs.Prelude.{Bool, ◌==◌, true, false, Option, Some, None, Result, Ok, Err}
use Rattle.fm_types.specs.declared.ids.FilterId.{FilterId}
use Rattle.fm_types.specs.declared.ids.InstanceId.{InstanceId}
use Rattle.fm_types.specs.declared.ids.OpId.{OpId}
use Rattle.fm_types.specs.declared.status.Status.{Status}
use Rattle.fm_types.specs.declared.status.Status.TheVariants as status
use Rattle.fm_stack.specs.declared.instance.Phase.{Phase}
use Rattle.fm_stack.specs.declared.instance.Phase.TheVariants as phase
use Rattle.fm_world.specs.declared.place.Place.{Place}
use Rattle.fm_world.specs.declared.place.Place.TheVariants as place

abbrev pub setup_of : Option Place → Option InstanceId
setup_of (Some (place.Setup i)) = Some i
setup_of _ = None

abbrev pub pre_of : Option Place → Option (OpId × InstanceId)
pre_of (Some (place.Pre o i)) = Some (o, i)
pre_of _ = None

abbrev pub base_of : Option Place → Option OpId
base_of (Some (place.Base o)) = Some o
base_of _ = None

abbrev pub post_of : Option Place → Option (OpId × InstanceId)
post_of (Some (place.Post o i)) = Some (o, i)
post_of _ = None

abbrev pub drain_of : Option Place → Option (OpId × InstanceId)
drain_of (Some (place.Drain o i)) = Some (o, i)
drain_of _ = None

abbrev pub early_drain_of : Option Place → Option (OpId × InstanceId)
early_drain_of (Some (place.EarlyDrain o i)) = Some (o, i)
early_drain_of _ = None

abbrev pub query_of : Option Place → Option InstanceId
query_of (Some (place.Query i)) = Some i
query_of _ = None

abbrev pub start_of : Option Place → Option InstanceId
start_of (Some (place.Start i)) = Some i
start_of _ = None

abbrev pub complete_of : Option Place → Option InstanceId
complete_of (Some (place.Complete i)) = Some i
complete_of _ = None

abbrev pub is_routine : Option Place → Bool
is_routine (Some (place.Routine i file)) = true
is_routine _ = false

abbrev pub unload_of : Option Place → Option FilterId
unload_of (Some (place.Unload f)) = Some f
unload_of _ = None

-- whether a worker in that place may still say that the instance holds an operation
abbrev pub may_hold : InstanceId → Place → Bool
may_hold i (place.Pre o j) = j.0 == i.0
may_hold i (place.Post o j) = j.0 == i.0
may_hold i _ = false

-- whether an instance in that phase is drained before the turn of what it is owed; one that isn't there refuses
abbrev pub drains_in : Option Phase → Result Bool Status
drains_in None = Err status.NoInstance
drains_in (Some phase.Detached) = Err status.NoInstance
drains_in (Some phase.Stopping) = Ok true
drains_in (Some _) = Ok false
