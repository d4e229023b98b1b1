-- How the calls of a base answer: as its folder says, or for want of memory, or because the device failed.
use Rattle.std.specs.Prelude.{◌≡◌, ◌≢◌, ℕ, ◌+◌, ◌-◌, ◌^◌, min, List, Option, Some, None, Result, Ok, Err, IsOk}
use Rattle.std.specs.FinMap.{get}
use Rattle.fm_types.specs.declared.status.Status.{Status}
use Rattle.fm_types.specs.declared.status.Status.TheVariants.{NoMemory, DeviceFault}
use Rattle.fm_base.specs.Folders.{Folder}

-- every file but one is as it was
abbrev pub ChangesOnly : List ℕ → Folder → Folder → Type 0
ChangesOnly path old new = (other : List ℕ) → other ≢ path → get new other ≡ get old other

-- a call that changes one file makes what is wanted of the folder, or is refused as is wanted and changes nothing;
-- memory is wanting only if nothing else refuses the call, and changes nothing; after a fault of the device nothing is said of that one file
abbrev pub Makes : {T : Type 0} → List ℕ → (Folder → Result Folder Status) → Folder → Folder → Result T Status → Type 0
Makes path wanted old new (Ok done) = wanted old ≡ Ok new
Makes path wanted old new (Err NoMemory) = (new ≡ old) × IsOk (wanted old)
Makes path wanted old new (Err DeviceFault) = ChangesOnly path old new
Makes path wanted old new (Err status) = (wanted old ≡ Err status) × (new ≡ old)

-- a call that reads tells what is wanted, or is refused as is wanted; or memory is wanting, if nothing else refuses it; or the device failed
abbrev pub Tells : {T : Type 0} → Result T Status → Result T Status → Type 0
Tells wanted (Ok value) = wanted ≡ Ok value
Tells wanted (Err NoMemory) = IsOk wanted
Tells wanted (Err DeviceFault) = Unit {0}
Tells wanted (Err status) = wanted ≡ Err status

-- the same of a base that may not know its folder: of one that doesn't nothing is said
abbrev pub MakesKnown : {T : Type 0} → List ℕ → (Folder → Result Folder Status) → Option Folder → Option Folder → Result T Status → Type 0
MakesKnown path wanted None new result = new ≡ None
MakesKnown path wanted (Some old) None result = ⊥
MakesKnown path wanted (Some old) (Some new) result = Makes path wanted old new result

abbrev pub TellsKnown : {T : Type 0} → (Folder → Result T Status) → Option Folder → Result T Status → Type 0
TellsKnown wanted None result = Unit {0}
TellsKnown wanted (Some folder) result = Tells (wanted folder) result

-- how many faults there were after a call: one more where it answered with a fault, until the count is full
abbrev pub faults_after : {T : Type 0} → ℕ → Result T Status → ℕ
faults_after faults (Err DeviceFault) = min (faults + 1) (2 ^ 64 - 1)
faults_after faults _ = faults

-- how many calls were made after one more, until the count is full, of a base that counts them
abbrev pub calls_after : Option ℕ → Option ℕ
calls_after None = None
calls_after (Some calls) = Some (min (calls + 1) (2 ^ 64 - 1))
