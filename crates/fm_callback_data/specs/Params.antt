-- What the parameters of an operation say, and which may stand in their place.
use Rattle.std.specs.Prelude.{ℕ, ◌+◌, ◌^◌, ◌==◌, ◌&&◌, Bool, true, false, List, length, Option, Some, None, nat_le}
use Rattle.std.specs.Cmp.Lexicographic.{pointwise}
use Rattle.fm_types.specs.Masks.{operation_bit}
use Rattle.fm_types.specs.declared.operation.Operation.{Operation}
use Rattle.fm_types.specs.declared.operation.Operation.TheVariants as kind
use Rattle.fm_types.specs.declared.ids.VolumeId.{VolumeId}
use Rattle.fm_callback_data.specs.Calls.{BaseCall}
use Rattle.fm_callback_data.specs.declared.params.Params.{Params}
use Rattle.fm_callback_data.specs.declared.params.Params.TheVariants as params

-- the kind of operation that has such parameters
abbrev pub operation_of : Params → Operation
operation_of (params.Create path mode) = kind.Create
operation_of (params.Read offset len) = kind.Read
operation_of (params.Write offset bytes) = kind.Write
operation_of params.QuerySize = kind.QuerySize
operation_of (params.SetSize size) = kind.SetSize
operation_of params.Flush = kind.Flush
operation_of params.List = kind.List
operation_of params.SetDelete = kind.SetDelete
operation_of params.Restore = kind.Restore
operation_of params.Cleanup = kind.Cleanup
operation_of params.Close = kind.Close
operation_of (params.Other major number) = kind.Other major

-- the path that a create names
abbrev pub path_of : Params → Option (List ℕ)
path_of (params.Create path mode) = Some path
path_of _ = None

-- how many bytes are to be read or written
abbrev pub length_of : Params → ℕ
length_of (params.Read offset len) = len
length_of (params.Write offset bytes) = length bytes
length_of _ = 0

-- the end of the file that the operation names: the offset past its last byte, or the new size
abbrev pub end_of : Params → ℕ
end_of (params.Read offset len) = offset + len
end_of (params.Write offset bytes) = offset + length bytes
end_of (params.SetSize size) = size
end_of _ = 0

-- no more bytes and no end farther out than operations may have
abbrev pub is_within_limits : Params → Bool
is_within_limits p = nat_le (length_of p) 32768 && nat_le (end_of p) (2 ^ 40)

-- two kinds of operations are one where they have one bit
abbrev pub same_operation : Operation → Operation → Bool
same_operation a b = operation_bit a == operation_bit b

abbrev pub same_path : Option (List ℕ) → Option (List ℕ) → Bool
same_path None None = true
same_path None (Some b) = false
same_path (Some a) None = false
same_path (Some a) (Some b) = pointwise ◌==◌ a b

-- a create's parameters name that path; others name none
abbrev pub are_on : Option (List ℕ) → Params → Bool
are_on path (params.Create own mode) = same_path (Some own) path
are_on path _ = true

-- these are parameters of such an operation on the file of that path
abbrev pub are_for : Operation → Option (List ℕ) → Params → Bool
are_for operation path p = same_operation (operation_of p) operation && are_on path p

-- and within the limits
abbrev pub fit : Operation → Option (List ℕ) → Params → Bool
fit operation path p = are_for operation path p && is_within_limits p

-- what a filter may put in place of parameters: others of the same operation, a create's on the same path
abbrev pub may_replace : Params → Params → Bool
may_replace received p = fit (operation_of received) (path_of received) p

-- a call that an operation may hand back: of its volume and its file, with its parameters
abbrev pub call_fits : Operation → VolumeId → Option (List ℕ) → BaseCall → Bool
call_fits operation volume path call = (call.volume.0 == volume.0) && (same_path call.path path && fit operation path call.params)
