-- What an operation is on, and what an answer to it makes of streams and handles.
use Rattle.std.specs.Prelude.{◌≡◌, ◌<◌, ◌-◌, ◌^◌, Bool, true, false, ◌&&◌, length, Option, Some, None}
use Rattle.fm_types.specs.declared.operation.Operation.{Operation}
use Rattle.fm_types.specs.declared.operation.Operation.TheVariants as kind
use Rattle.fm_operations.specs.declared.action.Below.{Below}
use Rattle.fm_operations.specs.declared.action.Below.TheVariants as below
use Rattle.fm_operations.specs.declared.action.FlowAction.{FlowAction}
use Rattle.fm_operations.specs.declared.action.FlowAction.TheVariants as action
use Rattle.fm_operations.specs.declared.entry.PreState.TheVariants as state
use Rattle.fm_types.specs.declared.status.Status.{Status}
use Rattle.fm_operations.specs.Answered.{is_success}
use Rattle.fm_operations.specs.Creates.{is_create}
use Rattle.fm_operations.specs.Record.{FlowRecord}
use Rattle.fm_operations.specs.Table.{FlowTable}
use Rattle.fm_operations.specs.declared.entry.PreState.{PreState}
use Rattle.fm_world.specs.declared.file.FileHandle.{FileHandle}
use Rattle.fm_world.specs.Files.{FileTable, after_base, after_pre}
use Rattle.fm_world.specs.Events.{is_created_on}
use Rattle.fm_core.specs.declared.target.Target.{Target}

abbrev pub target_in : FlowRecord → Target
target_in r = record { operation = r.operation; stream = r.stream; handle = r.handle }

-- what the close of a handle is on
abbrev pub close_on : FileHandle → Target
close_on x = record { operation = kind.Close; stream = Some x.stream; handle = Some x.number }

-- a success that gives a handle
abbrev pub opens : Target → Status → Bool
opens x status = is_create x.operation && is_success status

-- after the base's answer, where the operation is answered in that table
abbrev pub answered : FlowTable → Status → Target → FileTable → FileTable
answered t status x f = after_base x.operation x.stream x.handle status (is_created_on x.stream t) f

-- after the verdict of a filter
abbrev pub decided : FlowTable → PreState → Target → FileTable → FileTable
decided t given x f = after_pre given x.operation x.stream (is_created_on x.stream t) f

-- the answer that `next` recorded without a call
abbrev pub known_in : FlowAction → Below → Option Status
known_in action.Moved (below.Known status) = Some status
known_in _ _ = None

-- a handle that the answer gives has its room and its number
abbrev pub HasRoom : FileTable → Target → Status → Type 0
HasRoom f x status = opens x status ≡ true → (length f.handles < 4096) × (f.next < 2 ^ 64 - 1)

abbrev pub is_completed_create : PreState → Operation → Bool
is_completed_create (state.Completed why) kind.Create = true
is_completed_create _ _ = false
