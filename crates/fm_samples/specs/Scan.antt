-- The filter that scans what is opened.
use Rattle.std.specs.Prelude.{◌≡◌, ◌⊎◌, [], Bool, true, false, cond, codes, nat_eq, Option, Some, None, Result, Ok, Err, option_and_then}
use Rattle.std.specs.List.{starts_with}
use Rattle.fm_types.specs.declared.context_kind.ContextKind.TheVariants.{Handle}
use Rattle.fm_types.specs.declared.ids.CtxId.{CtxId}
use Rattle.fm_types.specs.declared.ids.HandleId.{HandleId}
use Rattle.fm_types.specs.declared.status.Status.{Status}
use Rattle.fm_types.specs.declared.status.Status.TheVariants.{AccessDenied}
use Rattle.fm_types.specs.declared.registration.Registration.{Registration}
use Rattle.fm_callback_data.specs.declared.answer.Answer.{Answer}
use Rattle.fm_callback_data.specs.declared.params.Params.{Params}
use Rattle.fm_callback_data.specs.declared.params.Params.TheVariants as params
use Rattle.fm_callback_data.specs.declared.request.FileRequest.TheVariants.{Read}
use Rattle.fm_callback_data.specs.declared.request.Request.TheVariants.{OnHandle}
use Rattle.fm_callback_data.specs.declared.verdict.PreVerdict.{PreVerdict}
use Rattle.fm_callback_data.specs.declared.verdict.PreVerdict.TheVariants.{Complete, NoCallback, WithCallback}
use Rattle.fm_callback_data.specs.Data.{Data, current_of}
use Rattle.fm_world.specs.declared.about.About.{About}
use Rattle.fm_world.specs.declared.about.AboutOperation.{AboutOperation}
use Rattle.fm_filter.specs.declared.port.Port as port
use Rattle.fm_samples.specs.Calls.{Releases, ReleasesSent, SetsUnlessThere}
use Rattle.fm_samples.specs.Common.{plain_completion}

-- it has preoperations of creates and reads, a postoperation of creates, and contexts of handles
abbrev pub scan_registers : Registration
scan_registers = record { pre = record { 0 = 3 }; post = record { 0 = 1 }; contexts = record { 0 = 8 }; query = true; unload = true }

-- a create asks for its postoperation, a read may be denied, and all else goes on
abbrev pub ScansVerdict : Params → PreVerdict → Type 0
ScansVerdict (params.Create path mode) answer = answer ≡ WithCallback plain_completion
ScansVerdict (params.Read offset len) answer = (answer ≡ NoCallback) ⊎ (answer ≡ Complete AccessDenied)
ScansVerdict _ answer = answer ≡ NoCallback

abbrev pub ScansPre : Data → PreVerdict → Data → Type 0
ScansPre old answer new = ScansVerdict (current_of old) answer × (new ≡ old)

-- a mark that was found is released
abbrev pub FindsMark : {P : Type 0} → port.Ghosts P → Result CtxId Status → Bool → P → P → Type 0
FindsMark p (Ok context) marked asked new = (marked ≡ true) × Releases p context asked new
FindsMark p (Err why) marked asked new = (marked ≡ false) × (new ≡ asked)

-- the handle's context is asked for, which is the mark
abbrev pub AsksMark : {P : Type 0} → port.Ghosts P → Bool → P → P → Type 0
AsksMark {P} p marked old new = (answer : Result CtxId Status) × (asked : P) × p.gets old Handle answer asked × FindsMark p answer marked asked new

-- a read is denied by a marked handle, and nothing is called for all else
abbrev pub ScansCalls : {P : Type 0} → port.Ghosts P → Params → PreVerdict → P → P → Type 0
ScansCalls p (params.Read offset len) answer old new =
    (marked : Bool) × AsksMark p marked old new × (answer ≡ cond marked (Complete AccessDenied) NoCallback)
ScansCalls p _ answer old new = new ≡ old

-- whether what was read begins with the four bytes; nothing does where the read was refused
abbrev pub is_foul : Result Answer Status → Bool
is_foul (Ok answer) = starts_with nat_eq answer.bytes (codes "foul")
is_foul (Err why) = false

-- the first four bytes are read by an operation of the filter's own
abbrev pub ReadsHead : {P : Type 0} → port.Ghosts P → HandleId → Bool → P → P → Type 0
ReadsHead p handle foul old new = (answer : Result Answer Status) × p.performs old (OnHandle handle (Read 0 4)) answer new × (foul ≡ is_foul answer)

-- a context without a body is set on the handle, unless one is there, and nothing is held of it
abbrev pub Marks : {P : Type 0} → port.Ghosts P → P → P → Type 0
Marks {P} p old new = (found : Option CtxId) × (made : P) × SetsUnlessThere p Handle [] found old made × ReleasesSent p found made new

abbrev pub MarksIf : {P : Type 0} → port.Ghosts P → Bool → P → P → Type 0
MarksIf p true old new = Marks p old new
MarksIf p false old new = new ≡ old

-- a file is read, and its handle marked if it is foul
abbrev pub ScansFile : {P : Type 0} → port.Ghosts P → HandleId → P → P → Type 0
ScansFile {P} p handle old new = (foul : Bool) × (read : P) × ReadsHead p handle foul old read × MarksIf p foul read new

-- the handle that a create opened
abbrev pub opened : Result About Status → Option HandleId
opened (Ok about) = option_and_then (λ (operation : AboutOperation). operation.handle) about.operation
opened (Err why) = None

abbrev pub ScansHandle : {P : Type 0} → port.Ghosts P → Option HandleId → P → P → Type 0
ScansHandle p None old new = new ≡ old
ScansHandle p (Some handle) old new = ScansFile p handle old new

-- what a create opened is scanned
abbrev pub ScansOpened : {P : Type 0} → port.Ghosts P → P → P → Type 0
ScansOpened p old new = (told : Result About Status) × p.tells old told × ScansHandle p (opened told) old new
