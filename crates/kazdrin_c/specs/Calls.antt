-- What a call of C makes of a session, and what C is told.
use Rattle.std.specs.Prelude.{◌≡◌, ◌==◌, ℕ, Bool, List, [], Option, Some, None, Result, Ok, Err, cond, length, nat_lt, slice_get, unwrap_or}
use Rattle.fm_types.specs.declared.status.Status.{Status}
use Rattle.fm_world.specs.declared.step.Step.{Step}
use Rattle.fm_world.specs.declared.step.StepReply.{StepReply}
use Rattle.fm_world.specs.Steps.{Steps}
use Rattle.fm_world.specs.World.{World}
use Rattle.kazdrin_c.specs.declared.event.KazdrinEvent.{KazdrinEvent}
use Rattle.kazdrin_c.specs.declared.told.KazdrinTold.{KazdrinTold}
use Rattle.kazdrin_c.specs.declared.host.SessionHost.{SessionHost}
use Rattle.fm_callback_data.specs.declared.verdict.PreVerdict.{PreVerdict}
use Rattle.fm_callback_data.specs.declared.verdict.PostVerdict.{PostVerdict}
use Rattle.fm_device.specs.Devices.{CarriesCall}
use Rattle.fm_session.specs.declared.lent.Given.{Given}
use Rattle.fm_session.specs.Sessions.{LendsNext, LentAnswers, LentBaseAnswered, LentBaseReturns, LentChanges, LentPostReturns, LentPreReturns}
use Rattle.fm_types.specs.Statuses.{number_of}
use Rattle.fm_callback_data.specs.declared.params.Params.{Params}
use Rattle.fm_session.specs.declared.lent.Lent.{Lent}
use Rattle.kazdrin_c.specs.declared.data.KazdrinData.{KazdrinData}
use Rattle.kazdrin_c.specs.Data.{lent_bytes, lent_told}
use Rattle.kazdrin_c.specs.Named.{attach_named, flag_in, operation_in, params_named, status_at, step_named, worker_in}
use Rattle.kazdrin_c.specs.Refusals.{Unnamed, Unread, UnreadParams, UnreadTexts}
use Rattle.kazdrin_c.specs.Told.{told_of, bytes_in, copied, due_code, reply_outcome, given_told, outcome_of}

-- whether some context waits for its cleanup
abbrev pub has_due : World → Bool
has_due w = nat_lt 0 (length w.contexts.due)

-- an answer in C's structures, of an event that led to that world
pub record AnswerTold (answer : StepReply) (w : World) (room : List ℕ) (result : ℕ) (told : KazdrinTold) (after : List ℕ) : Type 0 where
  pub outcome : result ≡ reply_outcome answer
  pub filled : told ≡ record (told_of answer) { length = length (bytes_in answer); due = due_code (has_due w) }
  pub bytes : after ≡ copied (bytes_in answer) room

-- what workers were lent and the file systems stay
pub record KeepsLent (old new : SessionHost) : Type 0 where
  pub lent : new.session.lent ≡ old.session.lent
  pub devices : new.devices ≡ old.devices

-- the event happens, and C is told its answer
abbrev pub Makes : Step → SessionHost → List ℕ → ℕ → SessionHost → KazdrinTold → List ℕ → Type 0
Makes s old room result new told after =
    (answer : StepReply) × Steps old.session.world s answer new.session.world × AnswerTold answer new.session.world room result told after × KeepsLent old new

-- a refusal for that reason, and nothing changes
abbrev pub RefusedFor : (Status → Type 0) → SessionHost → ℕ → SessionHost → Type 0
RefusedFor Refuses old result new = (status : Status) × Refuses status × (result ≡ number_of status) × (new ≡ old)

-- that event is named and happens; or none does, since what C passed is refused
abbrev pub MakesThat : (Status → Type 0) → Option Step → SessionHost → KazdrinTold → List ℕ → ℕ → SessionHost → KazdrinTold → List ℕ → Option Step → Type 0
MakesThat Refuses named old before room result new told after None = RefusedFor Refuses old result new × (told ≡ before) × (after ≡ room)
MakesThat Refuses named old before room result new told after (Some s) = (named ≡ Some s) × Makes s old room result new told after

-- the event that C names happens, or what C passed is refused
abbrev pub MakesNamed : (Status → Type 0) → Option Step → SessionHost → KazdrinTold → List ℕ → ℕ → SessionHost → KazdrinTold → List ℕ → Type 0
MakesNamed Refuses named old before room result new told after =
    (made : Option Step) × MakesThat Refuses named old before room result new told after made

-- kazdrin_step and kazdrin_attach
abbrev pub StepTold : KazdrinEvent → List ℕ → SessionHost → KazdrinTold → List ℕ → ℕ → SessionHost → KazdrinTold → List ℕ → Type 0
StepTold e bytes = MakesNamed (Unread e bytes (step_named e bytes)) (step_named e bytes)

abbrev pub AttachTold : KazdrinEvent → List ℕ → List ℕ → SessionHost → KazdrinTold → List ℕ → ℕ → SessionHost → KazdrinTold → List ℕ → Type 0
AttachTold e name altitude = MakesNamed (UnreadTexts name altitude) (Some (attach_named e name altitude))

-- the step that is told, where there is one
abbrev pub told_next : Result Given Status → KazdrinTold → KazdrinTold
told_next (Ok given) before = given_told given
told_next (Err status) before = before

abbrev pub NextTold : KazdrinEvent → SessionHost → KazdrinTold → ℕ → SessionHost → KazdrinTold → Type 0
NextTold e old before result new told =
    (r : Result Given Status) × LendsNext old.session (worker_in e) (operation_in e) r new.session
    × (result ≡ outcome_of r) × (told ≡ told_next r before) × (new.devices ≡ old.devices)

-- a preoperation returns with the verdict that C names; a number that names none is refused
abbrev pub PreTold : KazdrinEvent → SessionHost → ℕ → SessionHost → Option PreVerdict → Type 0
PreTold e old result new None = (result ≡ 32) × (new ≡ old)
PreTold e old result new (Some verdict) =
    (r : Result (Unit {0}) Status) × LentPreReturns old.session (worker_in e) verdict r new.session × (result ≡ outcome_of r) × (new.devices ≡ old.devices)

-- the same of a postoperation
abbrev pub PostTold : KazdrinEvent → SessionHost → ℕ → SessionHost → Option PostVerdict → Type 0
PostTold e old result new None = (result ≡ 32) × (new ≡ old)
PostTold e old result new (Some verdict) =
    (r : Result (Unit {0}) Status) × LentPostReturns old.session (worker_in e) verdict r new.session × (result ≡ outcome_of r) × (new.devices ≡ old.devices)

-- the file systems in memory carry out the call that the worker was lent
abbrev pub BaseTold : KazdrinEvent → SessionHost → ℕ → SessionHost → Type 0
BaseTold e old result new =
    (r : Result Status Status) × LentBaseReturns CarriesCall old.session old.devices (worker_in e) r new.session new.devices × (result ≡ outcome_of r)

-- what the worker was lent is looked at: nothing changes but what is told
abbrev pub LentTold : KazdrinEvent → SessionHost → KazdrinData → List ℕ → ℕ → SessionHost → KazdrinData → List ℕ → Option Lent → Type 0
LentTold e old before room result new told after None = (result ≡ 30) × (new ≡ old) × (told ≡ before) × (after ≡ room)
LentTold e old before room result new told after (Some lent) =
    (result ≡ 0) × (new ≡ old) × (told ≡ record (lent_told lent) { length = length (lent_bytes (flag_in e) lent) })
    × (after ≡ copied (lent_bytes (flag_in e) lent) room)

-- the callback puts those parameters in what it was lent, or what C passed is refused
abbrev pub ChangesThat : KazdrinEvent → List ℕ → SessionHost → ℕ → SessionHost → Option Params → Type 0
ChangesThat e bytes old result new None = RefusedFor (UnreadParams e.event bytes (params_named e bytes)) old result new
ChangesThat e bytes old result new (Some p) =
    (params_named e bytes ≡ Some p) × (r : Result (Unit {0}) Status) × LentChanges old.session (worker_in e) p r new.session
    × (result ≡ outcome_of r) × (new.devices ≡ old.devices)

abbrev pub ChangeTold : KazdrinEvent → List ℕ → SessionHost → ℕ → SessionHost → Type 0
ChangeTold e bytes old result new = (made : Option Params) × ChangesThat e bytes old result new made

-- the bytes that C gives, if it gives some
abbrev pub bytes_given : KazdrinEvent → List ℕ → Option (List ℕ)
bytes_given e bytes = cond (e.flag == 0) None (Some bytes)

-- that status, the number and those bytes are put in the answer of what the worker was lent
abbrev pub PutsAnswer : KazdrinEvent → Status → Option (List ℕ) → SessionHost → ℕ → SessionHost → Type 0
PutsAnswer e status bytes old result new =
    (r : Result (Unit {0}) Status) × LentAnswers old.session (worker_in e) status e.offset bytes r new.session
    × (result ≡ outcome_of r) × (new.devices ≡ old.devices)

-- the callback puts a status and bytes in the answer, or what C passed is refused
abbrev pub AnswersThat : KazdrinEvent → List ℕ → SessionHost → ℕ → SessionHost → Option Status → Type 0
AnswersThat e bytes old result new None = RefusedFor (Unnamed (flag_in e) (status_at e.status e.number)) old result new
AnswersThat e bytes old result new (Some status) = (status_at e.status e.number ≡ Some status) × PutsAnswer e status (bytes_given e bytes) old result new

abbrev pub AnswerPut : KazdrinEvent → List ℕ → SessionHost → ℕ → SessionHost → Type 0
AnswerPut e bytes old result new = (made : Option Status) × AnswersThat e bytes old result new made

-- the call of the base that the worker was lent returns with that status, the number and those bytes
abbrev pub ReturnsAnswer : KazdrinEvent → Status → Option (List ℕ) → SessionHost → ℕ → SessionHost → Type 0
ReturnsAnswer e status bytes old result new =
    (r : Result (Unit {0}) Status)
    × LentBaseAnswered old.session (worker_in e) (record { status = status; information = e.offset; bytes = unwrap_or bytes [] }) r new.session
    × (result ≡ outcome_of r) × (new.devices ≡ old.devices)

-- C answers the call, or what C passed is refused
abbrev pub BasedThat : KazdrinEvent → List ℕ → SessionHost → ℕ → SessionHost → Option Status → Type 0
BasedThat e bytes old result new None = RefusedFor (Unnamed (flag_in e) (status_at e.status e.number)) old result new
BasedThat e bytes old result new (Some status) = (status_at e.status e.number ≡ Some status) × ReturnsAnswer e status (bytes_given e bytes) old result new

abbrev pub BasedTold : KazdrinEvent → List ℕ → SessionHost → ℕ → SessionHost → Type 0
BasedTold e bytes old result new = (made : Option Status) × BasedThat e bytes old result new made

-- the same three as a call on an open handle has them: what was given and told first
abbrev pub StepOn : KazdrinEvent → List ℕ → KazdrinTold → List ℕ → ℕ → KazdrinTold → List ℕ → SessionHost → SessionHost → Type 0
StepOn e bytes before room result told after old new = StepTold e bytes old before room result new told after

abbrev pub AttachOn : KazdrinEvent → List ℕ → List ℕ → KazdrinTold → List ℕ → ℕ → KazdrinTold → List ℕ → SessionHost → SessionHost → Type 0
AttachOn e name altitude before room result told after old new = AttachTold e name altitude old before room result new told after

abbrev pub LentOn : KazdrinEvent → KazdrinData → List ℕ → ℕ → KazdrinData → List ℕ → SessionHost → SessionHost → Type 0
LentOn e before room result told after old new = LentTold e old before room result new told after (slice_get old.session.lent e.worker)
