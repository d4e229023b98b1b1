-- What a client reads of what it wrote, where every instance between it and the base is of the filter shift.
use Rattle.std.specs.Prelude.{◌≡◌, List, Option, Some, length, option_and_then, slice_get, ℕ, ◌<◌, All, IsSome}
use Rattle.fm_local.specs.Words.{Folder, Answer, Instance, Operation, Params, StackWorld}
use Rattle.std.specs.FinMap.{get}
use Rattle.fm_types.specs.declared.status.Status.TheVariants.{Success}
use Rattle.fm_stack.specs.declared.filter.Filter.{Filter}
use Rattle.fm_samples.specs.declared.sample.Sample.{Sample}
use Rattle.fm_samples.specs.declared.shift.Shift.{Shift}
use Rattle.fm_samples.specs.Sample.{SamplesPre, SamplesPost}
use Rattle.fm_samples.specs.Shift.{shift_registers}
use Rattle.fm_device.specs.Bases.{BasesCarry}
use Rattle.fm_local.specs.Chains.{Under, Subject, chain_of}
use Rattle.fm_local.specs.Folds.{Chain, Folds}

-- an instance of the filter shift, registered for what shift registers
pub record IsShift (filters : ℕ → Option Sample) (s : StackWorld) (i : ℕ) : Type 0 where
  pub row : Instance
  pub there : slice_get s.instances i ≡ Some row
  pub filter : Filter
  pub loaded : slice_get s.filters row.filter.0 ≡ Some filter
  pub registered : filter.registration ≡ shift_registers
  pub shift : Shift
  pub runs : filters row.filter.0 ≡ Some (Sample.Shift shift)

-- the chain of an operation of that kind on a file, over bases of one type
abbrev pub sample_chain : {B : Type 0} → (B → Option Folder) → (B → ℕ) → (ℕ → Option Sample) → StackWorld → Subject → Operation → Chain (Under (List B))
sample_chain folder faults filters s x operation = chain_of SamplesPre SamplesPost (BasesCarry folder faults) filters s (record x { operation = operation })

-- the folder of a volume, if it is known
abbrev pub folder_of : {B : Type 0} → (B → Option Folder) → List B → ℕ → Option Folder
folder_of folder bases v = option_and_then folder (slice_get bases v)

-- the file at a path of a folder
abbrev pub file_at : Option Folder → List ℕ → Option (List ℕ)
file_at folder path = option_and_then (λ known. get known path) folder

-- the file of a subject is what it was
abbrev pub FileStays : {B : Type 0} → (B → Option Folder) → Subject → Under (List B) → Under (List B) → Type 0
FileStays folder x old new =
    (path : List ℕ) → x.path ≡ Some path → file_at (folder_of folder new.device x.volume.0) path ≡ file_at (folder_of folder old.device x.volume.0) path

-- a write, and later a read of the same range through the same instances, all of shift, both with success, over a base that knows its folder, and the file
-- unchanged in between: what is read is what was written
abbrev pub ShiftRound : {B : Type 0} → (B → Option Folder) → (B → ℕ) → Type 0
ShiftRound {B} folder faults =
    (filters : ℕ → Option Sample) (s : StackWorld) (x : Subject) (is : List ℕ) (offset : ℕ) (bytes : List ℕ)
    (old mid later new : Under (List B)) (wrote read : Answer)
    → All (IsShift filters s) is → All (λ byte. byte < 256) bytes → IsSome (folder_of folder old.device x.volume.0)
    → Folds (sample_chain folder faults filters s x Operation.Write) is (Params.Write offset bytes) old wrote mid → wrote.status ≡ Success
    → FileStays folder x mid later
    → Folds (sample_chain folder faults filters s x Operation.Read) is (Params.Read offset (length bytes)) later read new → read.status ≡ Success
    → read.bytes ≡ bytes
