-- What the base's answer counts as.
use Rattle.std.specs.Prelude.{ℕ, Bool, true, false, cond, List, [], length, Option, Some}
use Rattle.fm_types.specs.declared.ids.HandleId.{HandleId}
use Rattle.fm_types.specs.declared.status.Status.{Status}
use Rattle.fm_types.specs.declared.status.Status.TheVariants.{Success}
use Rattle.fm_callback_data.specs.declared.params.Params.{Params}
use Rattle.fm_callback_data.specs.declared.params.Params.TheVariants as params
use Rattle.fm_callback_data.specs.declared.answer.Answer.{Answer}

-- an answer with nothing but a status
abbrev pub bare_answer : Status → Answer
bare_answer status = record { status = status; information = 0; bytes = [] }

abbrev pub is_success : Status → Bool
is_success Success = true
is_success _ = false

-- a success with a number alone, and one that brings bytes
abbrev pub telling : ℕ → Answer
telling n = record { status = Success; information = n; bytes = [] }

abbrev pub bringing : List ℕ → Answer
bringing bytes = record { status = Success; information = length bytes; bytes = bytes }

-- a success says how many bytes were read, written or listed, the size, the new handle, or what a major function without a kind of its own says, and else 0; a reading and a listing alone bring bytes
abbrev pub success_of : Params → Answer → HandleId → Answer
success_of (params.Create path mode) answer handle = telling handle.0
success_of (params.Read offset len) answer handle = bringing answer.bytes
success_of (params.Write offset bytes) answer handle = telling (length bytes)
success_of params.QuerySize answer handle = telling answer.information
success_of params.List answer handle = bringing answer.bytes
success_of (params.Other major number) answer handle = telling answer.information
success_of _ answer handle = telling 0

-- what counts of the answer to a call; a fault says nothing but its status
abbrev pub base_counted : Params → Answer → HandleId → Answer
base_counted call answer handle = cond (is_success answer.status) (success_of call answer handle) (bare_answer answer.status)

-- a create that succeeded has a handle from then on
abbrev pub handle_given : Params → Status → HandleId → Option HandleId → Option HandleId
handle_given (params.Create path mode) Success handle before = Some handle
handle_given _ _ handle before = before
