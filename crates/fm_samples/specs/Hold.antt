-- The filter that holds reads until a flush.
use Rattle.std.specs.Prelude.{◌≡◌, true}
use Rattle.fm_types.specs.declared.registration.Registration.{Registration}
use Rattle.fm_callback_data.specs.declared.params.Params.{Params}
use Rattle.fm_callback_data.specs.declared.params.Params.TheVariants as params
use Rattle.fm_callback_data.specs.declared.verdict.PreVerdict.{PreVerdict}
use Rattle.fm_callback_data.specs.declared.verdict.PreVerdict.TheVariants.{NoCallback, Pending}
use Rattle.fm_callback_data.specs.Data.{Data, current_of}
use Rattle.fm_operations.specs.declared.hold.Hold.TheVariants.{Pre}
use Rattle.fm_filter.specs.declared.port.Port as port
use Rattle.fm_samples.specs.Calls.{ResumesAll}

-- it has a preoperation of reads and flushes
abbrev pub hold_registers : Registration
hold_registers = record { pre = record { 0 = 34 }; post = record { 0 = 0 }; contexts = record { 0 = 0 }; query = true; unload = true }

abbrev pub held_verdict : Params → PreVerdict
held_verdict (params.Read offset len) = Pending
held_verdict _ = NoCallback

-- a read is held, and all else goes on; the data stays
abbrev pub HoldsPre : Data → PreVerdict → Data → Type 0
HoldsPre old answer new = (answer ≡ held_verdict (current_of old)) × (new ≡ old)

-- a flush lets all go on that is held, and nothing is called for all else
abbrev pub HoldsCalls : {P : Type 0} → port.Ghosts P → Params → P → P → Type 0
HoldsCalls p params.Flush old new = ResumesAll p Pre old new
HoldsCalls p _ old new = new ≡ old
