-- What is left on a volume.
use Rattle.std.specs.Prelude.{ℕ, ◌==◌, ◌&&◌, Bool, not, count_by}
use Rattle.fm_types.specs.declared.ids.VolumeId.{VolumeId}
use Rattle.fm_operations.specs.Record.{FlowRecord}
use Rattle.fm_operations.specs.Table.{FlowTable}

-- an operation of the volume whose answer wasn't handed out
abbrev pub is_left_on : VolumeId → FlowRecord → Bool
is_left_on v r = not r.collected && (r.volume.0 == v.0)

-- how many operations of a volume weren't collected
abbrev pub left_on : VolumeId → FlowTable → ℕ
left_on v t = count_by (is_left_on v) t.operations
