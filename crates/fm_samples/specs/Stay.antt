-- The filter that holds the answers of reads until a flush.
use Rattle.std.specs.Prelude.{◌≡◌, true, false}
use Rattle.fm_types.specs.declared.registration.Registration.{Registration}
use Rattle.fm_callback_data.specs.declared.params.Params.{Params}
use Rattle.fm_callback_data.specs.declared.params.Params.TheVariants as params
use Rattle.fm_callback_data.specs.declared.verdict.Completion.{Completion}
use Rattle.fm_callback_data.specs.declared.verdict.PreVerdict.{PreVerdict}
use Rattle.fm_callback_data.specs.declared.verdict.PreVerdict.TheVariants.{NoCallback, WithCallback}
use Rattle.fm_callback_data.specs.declared.verdict.PostVerdict.{PostVerdict}
use Rattle.fm_callback_data.specs.declared.verdict.PostVerdict.TheVariants.{MoreProcessing}
use Rattle.fm_callback_data.specs.Data.{Data, current_of}
use Rattle.fm_operations.specs.declared.hold.Hold.TheVariants.{Post}
use Rattle.fm_filter.specs.declared.port.Port as port
use Rattle.fm_samples.specs.Calls.{ResumesAll}
use Rattle.fm_samples.specs.Common.{plain_completion}

-- it has a preoperation of reads and flushes, a postoperation of reads, and no query routine
abbrev pub stay_registers : Registration
stay_registers = record { pre = record { 0 = 34 }; post = record { 0 = 2 }; contexts = record { 0 = 0 }; query = false; unload = true }

abbrev pub stayed_verdict : Params → PreVerdict
stayed_verdict (params.Read offset len) = WithCallback plain_completion
stayed_verdict _ = NoCallback

-- a read asks for its postoperation, and all else goes on; the data stays
abbrev pub StaysPre : Data → PreVerdict → Data → Type 0
StaysPre old answer new = (answer ≡ stayed_verdict (current_of old)) × (new ≡ old)

-- the postoperation holds the answer, as it is
abbrev pub StaysPost : Data → Completion → PostVerdict → Data → Type 0
StaysPost old completion answer new = (answer ≡ MoreProcessing) × (new ≡ old)

-- a flush lets all go on that is held, and nothing is called for all else
abbrev pub StaysCalls : {P : Type 0} → port.Ghosts P → Params → P → P → Type 0
StaysCalls p params.Flush old new = ResumesAll p Post old new
StaysCalls p _ old new = new ≡ old
