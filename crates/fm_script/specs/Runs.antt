-- What the lines of a script make of the manager's state, of what its workers were lent, and of the devices: each is a run of events, and the devices
-- change by the calls alone that a `next` gave.
use Rattle.std.specs.Prelude.{◌≡◌, ◌⊎◌, ℕ, ◌==◌, ◌++◌, Bool, true, false, List, [], ◌∷◌, Option, option_map, Some, Result, Ok, Err, MatchResult, cond, nat_lt, slice_get, slice_index_or}
use Rattle.fm_script.specs.Words.{CtxId, FilterId, VolumeId, InstanceId, OpId, WorkerId, Status, PreVerdict, World, Step, StepReply, Given, Task}
use Rattle.fm_callback_data.specs.declared.verdict.PostVerdict.TheVariants.{Finished}
use Rattle.fm_world.specs.Events.{Attaches, SetsUp}
use Rattle.fm_world.specs.Steps.{Steps}
use Rattle.fm_world.specs.declared.step.Step.TheVariants as step
use Rattle.fm_world.specs.declared.step.StepReply.TheVariants as reply
use Rattle.fm_world.specs.World.{carries}
use Rattle.fm_ctx.specs.Counting.{count_reply}
use Rattle.fm_operations.specs.Table.{in_flight}
use Rattle.fm_stack.specs.declared.instance.Instance.{Instance}
use Rattle.fm_stack.specs.declared.instance.Phase.{Phase}
use Rattle.fm_session.specs.Sessions.{LendsNext, LentPreReturns, LentPostReturns, LentBaseReturns}
use Rattle.fm_script.specs.Devices.{Calls}
use Rattle.fm_script.specs.Printing.{Printed, Says}
use Rattle.fm_script.specs.Sayings.{said_count, said_done, said_given, said_new, said_of, said_phase}
use Rattle.fm_script.specs.VerdictCommands.{with_callback}
use Rattle.fm_script.specs.declared.devices.Devices.{Devices}
use Rattle.fm_script.specs.declared.interpreter.Interpreter.{Interpreter}
use Rattle.fm_script.specs.declared.said.Said.{Said}
use Rattle.fm_script.specs.declared.said.Said.TheVariants.{Plain, Id, Number, Refused}
use Rattle.fm_script.specs.declared.said.Word.TheVariants as word
use Rattle.fm_script.specs.declared.script_end.ScriptEnd.{ScriptEnd}
use Rattle.fm_script.specs.declared.script_end.ScriptEnd.TheVariants.{NoMemory}
use Rattle.fm_script.specs.declared.task.Task.TheVariants as task

-- the devices stay, and which of their calls will fail
pub record KeepsDevices (old new : Devices) : Type 0 where
  pub folders : new.folders ≡ old.folders
  pub counts : (new.calls ≡ old.calls) × (new.failures ≡ old.failures)
  pub failing : new.failing.items ≡ old.failing.items

-- the manager's state, what its workers were lent, and the devices stay
pub record KeepsManager (old new : Interpreter) : Type 0 where
  pub session : new.session ≡ old.session
  pub devices : KeepsDevices old.devices new.devices

-- the script's own lists stay
pub record KeepsLists (old new : Interpreter) : Type 0 where
  pub plans : new.plans.items ≡ old.plans.items
  pub contexts : new.contexts.ids ≡ old.contexts.ids

abbrev pub Stays : Interpreter → Interpreter → Type 0
Stays old new = KeepsManager old new × KeepsLists old new

-- ---- one event

abbrev pub is_allocation : Step → Bool
is_allocation (step.Allocate k kind body) = true
is_allocation _ = false

-- the contexts in the order of their allocation
abbrev pub noted : Bool → List CtxId → StepReply → List CtxId
noted true contexts (reply.Context (Ok c)) = contexts ++ c ∷ []
noted true contexts _ = contexts
noted false contexts r = contexts

pub record MakesEvent (old : Interpreter) (s : Step) (r : StepReply) (new : Interpreter) : Type 0 where
  pub event : Steps old.session.world s r new.session.world
  pub lent : new.session.lent ≡ old.session.lent
  pub devices : new.devices ≡ old.devices
  pub plans : new.plans.items ≡ old.plans.items
  pub contexts : new.contexts.ids ≡ noted (is_allocation s) old.contexts.ids r

-- an attach by worker 0, which accepts the setup where there is one
abbrev pub worker_0 : WorkerId
worker_0 = record { 0 = 0 }

abbrev pub accepted : InstanceId → Result (Unit {0}) Status → Result InstanceId Status
accepted i (Ok done) = Ok i
accepted i (Err status) = Err status

abbrev pub Accepts : World → Result InstanceId Status → Result InstanceId Status → World → Type 0
Accepts mid (Ok i) result new = (done : Result (Unit {0}) Status) × SetsUp mid worker_0 true done new × (result ≡ accepted i done)
Accepts mid (Err status) result new = (new ≡ mid) × (result ≡ Err status)

abbrev pub AttachesAndAccepts : World → FilterId → VolumeId → List ℕ → List ℕ → Result InstanceId Status → World → Type 0
AttachesAndAccepts old f v name altitude result new =
    (r : Result InstanceId Status) × (mid : World) × Attaches old worker_0 f v name altitude r mid × Accepts mid r result new

-- ---- tasks

abbrev pub BySession : Interpreter → Interpreter → Type 0
BySession old new = (new.devices ≡ old.devices) × KeepsLists old new

-- the tasks of one event, which a `go` consists of, each with the line that is printed for its answer
abbrev pub Acts : Task → (Said → Type 0) → Interpreter → Interpreter → Type 0
Acts (task.Event s) Prints old new = (r : StepReply) × MakesEvent old s r new × Prints (said_of new.contexts.ids r)
Acts (task.Next k o) Prints old new = (r : Result Given Status) × LendsNext old.session k o r new.session × BySession old new × Prints (said_given r)
Acts (task.Pre k answer) Prints old new =
    (r : Result (Unit {0}) Status) × LentPreReturns old.session k answer r new.session × BySession old new × Prints (said_done r)
Acts (task.Base k) Prints old new =
    (r : Result Status Status) × LentBaseReturns Calls old.session old.devices k r new.session new.devices × KeepsLists old new
    × Prints (said_new (λ status. Plain word.Ok) r)
Acts (task.Post k answer) Prints old new =
    (r : Result (Unit {0}) Status) × LentPostReturns old.session k answer r new.session × BySession old new × Prints (said_done r)
Acts _ Prints old new = ⊥

-- `go` is of those of its worker, and of its operation; it holds none on its way up
abbrev pub IsTurn : WorkerId → OpId → Task → Type 0
IsTurn k o (task.Next by own) = (by ≡ k) × (own ≡ o)
IsTurn k o (task.Pre by answer) = by ≡ k
IsTurn k o (task.Base by) = by ≡ k
IsTurn k o (task.Post by answer) = (by ≡ k) × (answer ≡ Finished)
IsTurn k o (task.Event s) = s ≡ step.Collect o
IsTurn k o _ = ⊥

-- such tasks, the last one first, whatever is printed for them
abbrev pub Turns : WorkerId → OpId → List Task → Interpreter → Interpreter → Type 0
Turns k o [] old new = new ≡ old
Turns k o (t ∷ before) old new = IsTurn k o t × (mid : Interpreter) × Turns k o before old mid × Acts t (λ line. Unit {0}) mid new

unfoldable pub Goes : WorkerId → OpId → Interpreter → Interpreter → Type 0
Goes k o old new = (turns : List Task) × Turns k o turns old new

-- what `go` answers for an instance: `with` until a plan says otherwise
abbrev pub planned : List PreVerdict → InstanceId → PreVerdict
planned plans i = slice_index_or plans i.0 with_callback

-- the plan of one instance changes
pub record Plans (old : Interpreter) (i : InstanceId) (answer : PreVerdict) (new : Interpreter) : Type 0 where
  pub manager : KeepsManager old new
  pub contexts : new.contexts.ids ≡ old.contexts.ids
  pub plan : planned new.plans.items i ≡ answer
  pub others : (other : InstanceId) → (other.0 == i.0) ≡ false → planned new.plans.items other ≡ planned old.plans.items other

-- the device call of that number will fail, unless it was made already
pub record Fails (old : Interpreter) (n : ℕ) (new : Interpreter) : Type 0 where
  pub session : new.session ≡ old.session
  pub folders : new.devices.folders ≡ old.devices.folders
  pub counts : (new.devices.calls ≡ old.devices.calls) × (new.devices.failures ≡ old.devices.failures)
  pub lists : KeepsLists old new
  pub failing : new.devices.failing.items ≡ cond (nat_lt old.devices.calls n) (old.devices.failing.items ++ n ∷ []) old.devices.failing.items

abbrev pub phase_of : World → InstanceId → Option Phase
phase_of w i = option_map (λ (row : Instance). row.phase) (slice_get w.stack.instances i.0)

-- a question: nothing changes
abbrev pub Tells : Said → (Said → Type 0) → Interpreter → Interpreter → Type 0
Tells line Prints old new = (new ≡ old) × Prints line

-- what a task makes, and which line is printed for it; which lines `go` prints isn't said here
abbrev pub Performs : Task → (Said → Type 0) → Interpreter → Interpreter → Type 0
Performs (task.Attach f v name altitude) Prints old new =
    (r : Result InstanceId Status) × AttachesAndAccepts old.session.world f v name altitude r new.session.world
    × (new.session.lent ≡ old.session.lent) × BySession old new × Prints (said_new (λ i. Id word.Ok 105 i.0) r)
Performs (task.Go k o) Prints old new = Goes k o old new
Performs (task.Plan i answer) Prints old new = Plans old i answer new × Prints (Plain word.Ok)
Performs (task.Fail n) Prints old new = Fails old n new × Prints (Plain word.Ok)
Performs (task.Phase i) Prints old new = Tells (said_phase (phase_of old.session.world i)) Prints old new
Performs (task.Flight i) Prints old new = Tells (Number word.Flight (in_flight i.0 old.session.world.flow)) Prints old new
Performs (task.Count c) Prints old new =
    Tells (said_count (count_reply (carries old.session.world) old.session.world.contexts c)) Prints old new
Performs task.Leaks Prints old new = Tells (Number word.Leaks old.session.world.contexts.leaks) Prints old new
Performs task.Failures Prints old new = Tells (Number word.Failures old.devices.failures) Prints old new
Performs (task.Event s) Prints old new = Acts (task.Event s) Prints old new
Performs (task.Next k o) Prints old new = Acts (task.Next k o) Prints old new
Performs (task.Pre k answer) Prints old new = Acts (task.Pre k answer) Prints old new
Performs (task.Base k) Prints old new = Acts (task.Base k) Prints old new
Performs (task.Post k answer) Prints old new = Acts (task.Post k answer) Prints old new

-- memory for a note of the script's own, or for reading a line, is wanting: nothing changes, nothing is printed, and the script ends
pub record Wants (result : Result (Unit {0}) ScriptEnd) (old new : Interpreter) (before after : Printed) : Type 0 where
  pub ends : result ≡ Err NoMemory
  pub stays : Stays old new
  pub printed : after ≡ before

-- a task is done, and the line is given that tells it; where memory is refused nothing has changed
abbrev pub PerformsAs : {E : Type 0} → Task → Result (Option Said) E → Interpreter → Interpreter → Type 0
PerformsAs t result old new = MatchResult result (λ said. Performs t (λ line. said ≡ Some line) old new) (λ _. Stays old new)

-- a task is done, unless memory for a note is wanting
abbrev pub PerformsOr : Task → Result (Unit {0}) ScriptEnd → Interpreter → Interpreter → Printed → Printed → Type 0
PerformsOr t result old new before after = Performs t (λ line. Says line result before after) old new ⊎ Wants result old new before after

-- a line is refused: its status is printed, and nothing else changes
abbrev pub Refuses : Status → Result (Unit {0}) ScriptEnd → Interpreter → Interpreter → Printed → Printed → Type 0
Refuses status result old new before after = (new ≡ old) × Says (Refused status) result before after

-- what was read is done, or refused
abbrev pub PerformsRead : Result Task Status → Result (Unit {0}) ScriptEnd → Interpreter → Interpreter → Printed → Printed → Type 0
PerformsRead (Ok t) = PerformsOr t
PerformsRead (Err status) = Refuses status

-- what was read is done, or refused, and told as values; which ones a `go` tells isn't said here
abbrev pub TellsRead : Result Task Status → List Said → Interpreter → Interpreter → Type 0
TellsRead (Ok t) told old new = Performs t (λ line. told ≡ line ∷ []) old new
TellsRead (Err status) told old new = (new ≡ old) × (told ≡ Refused status ∷ [])
