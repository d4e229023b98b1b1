-- What calls of the base are answered by folders, and what they make of them.
use Rattle.std.specs.Prelude.{◌≡◌, ◌≢◌, ℕ, ◌+◌, ◌-◌, ◌^◌, min, Bool, true, false, List, [], ◌<◌, ◌≤◌, length, slice_index_or, slice_set, Option, Some, None, Result, Ok, Err}
use Rattle.std.specs.FinMap.{empty}
use Rattle.fm_types.specs.declared.status.Status.{Status}
use Rattle.fm_types.specs.declared.status.Status.TheVariants.{Success, NoMemory, NoVolume, DeviceFault, BadRequest}
use Rattle.fm_callback_data.specs.declared.answer.Answer.{Answer}
use Rattle.fm_callback_data.specs.Calls.{BaseCall}
use Rattle.fm_callback_data.specs.declared.params.Params.{Params}
use Rattle.fm_callback_data.specs.declared.params.Params.TheVariants as params
use Rattle.fm_callback_data.specs.Params.{is_within_limits}
use Rattle.fm_types.specs.ByteLists.{resized, written}
use Rattle.fm_base.specs.Answers.{ChangesOnly}
use Rattle.fm_base.specs.Folders.{Folder, created, changed, unlinked, told, bytes_from, size_of, presence_of, listed}

-- an answer with nothing but a status
abbrev pub bare : Status → Answer
bare status = record { status = status; information = 0; bytes = [] }

-- how many faults a base has met after a call that was answered with that status: one more if it is a fault, until the count is full, and else none
abbrev pub faults_told : Status → ℕ → ℕ
faults_told DeviceFault faults = min (faults + 1) (2 ^ 64 - 1)
faults_told status faults = faults

-- an answer that says no more than whether a call succeeded
abbrev pub done_as : Result (Unit {0}) Status → Answer
done_as (Ok nothing) = bare Success
done_as (Err status) = bare status

-- an answer that brings bytes
abbrev pub told_as : Result (List ℕ) Status → Answer
told_as (Ok bytes) = record { status = Success; information = length bytes; bytes = bytes }
told_as (Err status) = bare status

-- an answer that tells a size
abbrev pub sized_as : Result ℕ Status → Answer
sized_as (Ok size) = record { status = Success; information = size; bytes = [] }
sized_as (Err status) = bare status

-- an answer to a call that makes a folder, and the folder after it
abbrev pub made_as : Result Folder Status → Answer
made_as (Ok folder) = bare Success
made_as (Err status) = bare status

abbrev pub made_of : Result Folder Status → Folder → Folder
made_of (Ok folder) old = folder
made_of (Err status) old = old

-- what a call on a file makes of the folder, or the status with which it is refused; a close that reaches the device unlinks the file
abbrev pub made_by : List ℕ → Params → Folder → Result Folder Status
made_by path (params.Create own mode) folder = created mode path folder
made_by path (params.Write offset bytes) folder = changed (written offset bytes) path folder
made_by path (params.SetSize size) folder = changed (resized size) path folder
made_by path params.Close folder = unlinked path folder
made_by path call folder = Ok folder

-- what a call on a file is answered, where memory isn't wanting; a folder knows no major function without a kind of its own
abbrev pub answer_to : List ℕ → Params → Folder → Answer
answer_to path (params.Read offset len) folder = told_as (told (bytes_from offset len) path folder)
answer_to path params.QuerySize folder = sized_as (told size_of path folder)
answer_to path params.Flush folder = done_as (told presence_of path folder)
answer_to path (params.Other major number) folder = bare BadRequest
answer_to path call folder = made_as (made_by path call folder)

-- whether a call changes its file
abbrev pub changes_file : Params → Bool
changes_file (params.Create own mode) = true
changes_file (params.Write offset bytes) = true
changes_file (params.SetSize size) = true
changes_file params.Close = true
changes_file call = false

-- whether a call may take memory
abbrev pub may_grow : Params → Bool
may_grow (params.Create own mode) = true
may_grow (params.Read offset len) = true
may_grow (params.Write offset bytes) = true
may_grow (params.SetSize size) = true
may_grow call = false

-- what a fault of the device leaves: nothing is said of a file that the call changes, and all else stays
abbrev pub Faults : Bool → List ℕ → Folder → Folder → Type 0
Faults true path old new = ChangesOnly path old new
Faults false path old new = new ≡ old

-- a call is answered as is to be said, and makes what is to be made; or memory is wanting, of a call that may take some and that nothing else refuses,
-- and nothing changes; or the device failed
pub record AnswersAs (path : List ℕ) (changes grows : Bool) (said : Answer) (made old new : Folder) (answer : Answer) : Type 0 where
  pub says : answer ≢ bare NoMemory → answer ≢ bare DeviceFault → (answer ≡ said) × (new ≡ made)
  pub wants : answer ≡ bare NoMemory → (grows ≡ true) × (said.status ≡ Success) × (new ≡ old)
  pub fails : answer ≡ bare DeviceFault → Faults changes path old new

-- of a call on a file the folder before it says what is said and made
abbrev pub Carries : List ℕ → Params → Folder → Folder → Answer → Type 0
Carries path call old new answer =
    AnswersAs path (changes_file call) (may_grow call) (answer_to path call old) (made_of (made_by path call old) old) old new answer

-- a call past the limits is refused
abbrev pub CarriesWithin : Bool → List ℕ → Params → Folder → Folder → Answer → Type 0
CarriesWithin true path call old new answer = Carries path call old new answer
CarriesWithin false path call old new answer = (answer ≡ bare BadRequest) × (new ≡ old)

abbrev pub is_listing : Params → Bool
is_listing params.List = true
is_listing _ = false

-- a listing asks for no file; any other call without one is refused
abbrev pub CarriesOn : Bool → Option (List ℕ) → Params → Folder → Folder → Answer → Type 0
CarriesOn true path call old new answer = AnswersAs [] false true (told_as (listed old)) old old new answer
CarriesOn false None call old new answer = (answer ≡ bare BadRequest) × (new ≡ old)
CarriesOn false (Some path) call old new answer = CarriesWithin (is_within_limits call) path call old new answer

abbrev pub CarriesAny : Option (List ℕ) → Params → Folder → Folder → Answer → Type 0
CarriesAny path call old new answer = CarriesOn (is_listing call) path call old new answer

-- of a base that knows its folder; of one that doesn't nothing is said
abbrev pub KnownAs : Option Folder → Option Folder → (Folder → Folder → Type 0) → Type 0
KnownAs None new carries = new ≡ None
KnownAs (Some old) None carries = ⊥
KnownAs (Some old) (Some new) carries = carries old new

-- the folder of the volume answers and changes so, without a fault of the device, and all others stay; a volume that isn't there is refused
pub record CarriesCall (old : List Folder) (call : BaseCall) (answer : Answer) (new : List Folder) : Type 0 where
  pub absent : length old ≤ call.volume.0 → (answer ≡ bare NoVolume) × (new ≡ old)
  pub carried : call.volume.0 < length old →
      CarriesAny call.path call.params (slice_index_or old call.volume.0 empty) (slice_index_or new call.volume.0 empty) answer
  pub sound : answer ≢ bare DeviceFault
  pub others : new ≡ slice_set old call.volume.0 (slice_index_or new call.volume.0 empty)
