-- Creates that are under way.
use Rattle.std.specs.Prelude.{ℕ, Bool, true, false, count_by, ◌&&◌, ◌==◌, Option, Some, None}
use Rattle.std.specs.List.{list_any}
use Rattle.fm_types.specs.declared.ids.StreamId.{StreamId}
use Rattle.fm_types.specs.declared.ids.OpId.{OpId}
use Rattle.fm_types.specs.declared.operation.Operation.{Operation}
use Rattle.fm_types.specs.declared.operation.Operation.TheVariants as kind
use Rattle.fm_operations.specs.declared.stage.Stage.{Stage}
use Rattle.fm_operations.specs.declared.stage.Stage.TheVariants.{Descending, PreRunning, PreHeld, InBase}
use Rattle.fm_operations.specs.Record.{FlowRecord}
use Rattle.fm_operations.specs.Steps.{is_done}
use Rattle.fm_operations.specs.Table.{FlowTable, told}

abbrev pub is_create : Operation → Bool
is_create kind.Create = true
is_create _ = false

-- neither the base nor a filter has answered
abbrev pub is_unanswered : Stage → Bool
is_unanswered Descending = true
is_unanswered PreRunning = true
is_unanswered PreHeld = true
is_unanswered InBase = true
is_unanswered _ = false

abbrev pub is_creating : FlowRecord → Bool
is_creating r = is_create r.operation && is_unanswered r.stage

abbrev pub is_on_stream : StreamId → Option StreamId → Bool
is_on_stream s None = false
is_on_stream s (Some t) = t.0 == s.0

-- whether a create of that stream is under way
abbrev pub has_create_on : StreamId → FlowTable → Bool
has_create_on s t = list_any (λ r. is_creating r && is_on_stream s r.stream) t.operations

-- how many creates are under way
abbrev pub creates : FlowTable → ℕ
creates t = count_by is_creating t.operations

-- an operation of that number is done, whether it is still there or was collected
abbrev pub is_over : OpId → FlowTable → Bool
is_over o t = told is_done true o t
