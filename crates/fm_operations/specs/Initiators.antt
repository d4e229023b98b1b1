-- Operations that an instance's filter asked for itself.
use Rattle.std.specs.Prelude.{ℕ, Bool, false, not, ◌&&◌, ◌==◌, count_by, Option, Some, None}
use Rattle.fm_types.specs.declared.ids.InstanceId.{InstanceId}
use Rattle.fm_operations.specs.Record.{FlowRecord}
use Rattle.fm_operations.specs.Table.{FlowTable}

abbrev pub is_below : ℕ → Option InstanceId → Bool
is_below i None = false
is_below i (Some j) = j.0 == i

-- whether that instance's filter asked for an operation, and its answer wasn't handed out
abbrev pub is_begun_by : ℕ → FlowRecord → Bool
is_begun_by i r = not r.collected && is_below i r.below

-- how many there are
abbrev pub begun_by : ℕ → FlowTable → ℕ
begun_by i t = count_by (is_begun_by i) t.operations
