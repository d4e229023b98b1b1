-- The filter that keeps a file's bytes raised by one.
use Rattle.std.specs.Prelude.{◌≡◌, ◌⊎◌, ℕ, ◌+◌, ◌%◌, true, List, map, Some}
use Rattle.fm_types.specs.declared.registration.Registration.{Registration}
use Rattle.fm_types.specs.declared.status.Status.TheVariants as status
use Rattle.fm_callback_data.specs.declared.params.Params.{Params}
use Rattle.fm_callback_data.specs.declared.params.Params.TheVariants as params
use Rattle.fm_callback_data.specs.declared.verdict.Completion.{Completion}
use Rattle.fm_callback_data.specs.declared.verdict.PreVerdict.{PreVerdict}
use Rattle.fm_callback_data.specs.declared.verdict.PreVerdict.TheVariants as verdict
use Rattle.fm_callback_data.specs.declared.verdict.PostVerdict.{PostVerdict}
use Rattle.fm_callback_data.specs.declared.verdict.PostVerdict.TheVariants.{Finished}
use Rattle.fm_callback_data.specs.Data.{Data, current_of}
use Rattle.fm_samples.specs.Common.{plain_completion}

-- it has preoperations of reads and writes, and a postoperation of reads
abbrev pub shift_registers : Registration
shift_registers = record { pre = record { 0 = 6 }; post = record { 0 = 2 }; contexts = record { 0 = 0 }; query = true; unload = true }

-- bytes with 1 added to each, and with 1 taken from each, modulo 256
abbrev pub raised_byte : ℕ → ℕ
raised_byte byte = (byte + 1) % 256

abbrev pub lowered_byte : ℕ → ℕ
lowered_byte byte = (byte + 255) % 256

abbrev pub raised : List ℕ → List ℕ
raised bytes = map raised_byte bytes

abbrev pub lowered : List ℕ → List ℕ
lowered bytes = map lowered_byte bytes

-- a write goes on with its bytes raised, or ends where there is no memory for them; a read asks for its postoperation; all else goes on
abbrev pub ShiftsParams : Params → Data → PreVerdict → Data → Type 0
ShiftsParams (params.Write offset bytes) old answer new =
    ((answer ≡ verdict.NoCallback) × (new ≡ record old { changed = Some (params.Write offset (raised bytes)) }))
    ⊎ ((answer ≡ verdict.Complete status.NoMemory) × (new ≡ old))
ShiftsParams (params.Read offset len) old answer new = (answer ≡ verdict.WithCallback plain_completion) × (new ≡ old)
ShiftsParams _ old answer new = (answer ≡ verdict.NoCallback) × (new ≡ old)

abbrev pub ShiftsPre : Data → PreVerdict → Data → Type 0
ShiftsPre old answer new = ShiftsParams (current_of old) old answer new

-- the bytes that were read come up lowered
abbrev pub ShiftsPost : Data → Completion → PostVerdict → Data → Type 0
ShiftsPost old completion answer new = (answer ≡ Finished) × (new ≡ record old { out = lowered old.out })
