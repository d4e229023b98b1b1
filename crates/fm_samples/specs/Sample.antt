-- The sample filters as one type: each relation goes by the filter.
use Rattle.std.specs.Prelude.{◌≡◌, ℕ, List, ⊤}
use Rattle.fm_types.specs.declared.context_kind.ContextKind.{ContextKind}
use Rattle.fm_types.specs.declared.registration.Registration.{Registration}
use Rattle.fm_callback_data.specs.Data.{Data}
use Rattle.fm_callback_data.specs.declared.params.Params.{Params}
use Rattle.fm_callback_data.specs.declared.verdict.Completion.{Completion}
use Rattle.fm_callback_data.specs.declared.verdict.PreVerdict.{PreVerdict}
use Rattle.fm_callback_data.specs.declared.verdict.PostVerdict.{PostVerdict}
use Rattle.fm_operations.specs.declared.hold.Hold.TheVariants as callback
use Rattle.fm_filter.specs.declared.port.Port as port
use Rattle.fm_samples.specs.declared.sample.Sample.{Sample}
use Rattle.fm_samples.specs.declared.sample.Sample.TheVariants.{Guard, Meter, Shift, Hold, Carry, Stay, Scan}
use Rattle.fm_samples.specs.Calls.{ReleasesSent, ResumesAll}
use Rattle.fm_samples.specs.Common.{IsBarePre, IsBarePost, CountsNothing}
use Rattle.fm_samples.specs.Guard.{GuardsPre, guard_registers}
use Rattle.fm_samples.specs.Meter.{MetersCalls, MetersCleanup, meter_registers}
use Rattle.fm_samples.specs.Shift.{ShiftsPre, ShiftsPost, shift_registers}
use Rattle.fm_samples.specs.Hold.{HoldsPre, HoldsCalls, hold_registers}
use Rattle.fm_samples.specs.Carry.{CarriesPre, CarriesCalls, carry_registers}
use Rattle.fm_samples.specs.Stay.{StaysPre, StaysPost, StaysCalls, stay_registers}
use Rattle.fm_samples.specs.Scan.{ScansPre, ScansCalls, ScansOpened, scan_registers}

abbrev pub sample_registers : Sample → Registration
sample_registers (Guard filter) = guard_registers
sample_registers (Meter filter) = meter_registers
sample_registers (Shift filter) = shift_registers
sample_registers (Hold filter) = hold_registers
sample_registers (Carry filter) = carry_registers
sample_registers (Stay filter) = stay_registers
sample_registers (Scan filter) = scan_registers

abbrev pub SamplesPre : Sample → Data → PreVerdict → Data → Type 0
SamplesPre (Guard filter) = GuardsPre
SamplesPre (Meter filter) = IsBarePre
SamplesPre (Shift filter) = ShiftsPre
SamplesPre (Hold filter) = HoldsPre
SamplesPre (Carry filter) = CarriesPre
SamplesPre (Stay filter) = StaysPre
SamplesPre (Scan filter) = ScansPre

abbrev pub SamplesPost : Sample → Data → Completion → PostVerdict → Data → Type 0
SamplesPost (Guard filter) = IsBarePost
SamplesPost (Meter filter) = IsBarePost
SamplesPost (Shift filter) = ShiftsPost
SamplesPost (Hold filter) = IsBarePost
SamplesPost (Carry filter) = IsBarePost
SamplesPost (Stay filter) = StaysPost
SamplesPost (Scan filter) = IsBarePost

abbrev pub SamplesCleanup : Sample → ContextKind → List ℕ → ℕ → Type 0
SamplesCleanup (Guard filter) = CountsNothing
SamplesCleanup (Meter filter) = MetersCleanup
SamplesCleanup (Shift filter) = CountsNothing
SamplesCleanup (Hold filter) = CountsNothing
SamplesCleanup (Carry filter) = CountsNothing
SamplesCleanup (Stay filter) = CountsNothing
SamplesCleanup (Scan filter) = CountsNothing

-- guard and shift call nothing of the manager
abbrev pub IsQuietSample : Sample → Type 0
IsQuietSample (Guard filter) = ⊤
IsQuietSample (Meter filter) = ⊥
IsQuietSample (Shift filter) = ⊤
IsQuietSample (Hold filter) = ⊥
IsQuietSample (Carry filter) = ⊥
IsQuietSample (Stay filter) = ⊥
IsQuietSample (Scan filter) = ⊥

-- what its preoperation calls of its port
abbrev pub SamplesCalls : {P : Type 0} → port.Ghosts P → Sample → Params → PreVerdict → P → P → Type 0
SamplesCalls p (Meter filter) given answer old new = MetersCalls p ⊤ given old new
SamplesCalls p (Hold filter) given answer old new = HoldsCalls p given old new
SamplesCalls p (Carry filter) given answer old new = CarriesCalls p ⊤ given answer old new
SamplesCalls p (Stay filter) given answer old new = StaysCalls p given old new
SamplesCalls p (Scan filter) given answer old new = ScansCalls p given answer old new
SamplesCalls p _ given answer old new = new ≡ old

-- what its drain calls: carry releases what the completion brought, and the others call nothing
abbrev pub SamplesLetGo : {P : Type 0} → port.Ghosts P → Sample → Completion → P → P → Type 0
SamplesLetGo p (Carry filter) completion old new = ReleasesSent p completion.context old new
SamplesLetGo p _ completion old new = new ≡ old

-- what its postoperation calls: scan scans what was opened, and the others do as in their drains
abbrev pub SamplesUp : {P : Type 0} → port.Ghosts P → Sample → Completion → P → P → Type 0
SamplesUp p (Scan filter) completion old new = ScansOpened p old new
SamplesUp p filter completion old new = SamplesLetGo p filter completion old new

-- what it calls if a teardown starts: hold and stay let all go on that they hold, and the others call nothing
abbrev pub SamplesStart : {P : Type 0} → port.Ghosts P → Sample → P → P → Type 0
SamplesStart p (Hold filter) old new = ResumesAll p callback.Pre old new
SamplesStart p (Stay filter) old new = ResumesAll p callback.Post old new
SamplesStart p _ old new = new ≡ old
