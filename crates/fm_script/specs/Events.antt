-- The events that a line stands for: whatever a task makes of the manager's state is a run of events that it names, and of a `go` those of its worker
-- and its operation.
use Rattle.std.specs.Prelude.{◌≡◌, ◌⊎◌, true, List, Option, Result}
use Rattle.std.specs.List.{AllByRecursion}
use Rattle.fm_script.specs.Words.{WorkerId, Data, Answer, BaseCall, PreVerdict, Step, StepReply, Task}
use Rattle.fm_callback_data.specs.declared.verdict.PostVerdict.TheVariants.{Finished}
use Rattle.fm_world.specs.Steps.{Run}
use Rattle.fm_world.specs.declared.step.Step.TheVariants as step
use Rattle.fm_script.specs.Printing.{Printed}
use Rattle.fm_script.specs.Runs.{PerformsOr, worker_0}
use Rattle.fm_script.specs.declared.interpreter.Interpreter.{Interpreter}
use Rattle.fm_script.specs.declared.script_end.ScriptEnd.{ScriptEnd}
use Rattle.fm_script.specs.declared.task.Task.TheVariants as task

-- a worker's return from a callback or a call, with whatever it was lent
abbrev pub IsPre : WorkerId → Step → Type 0
IsPre k s = (answer : PreVerdict) × (own : Data) × (s ≡ step.PreReturned k answer own)

abbrev pub IsBase : WorkerId → Step → Type 0
IsBase k s = (call : BaseCall) × (answer : Answer) × (s ≡ step.BaseReturned k call answer)

abbrev pub IsPost : WorkerId → Step → Type 0
IsPost k s = (own : Option Data) × (s ≡ step.PostReturned k Finished own)

-- an event that a task names
abbrev pub Names : Task → Step → Type 0
Names (task.Event own) s = s ≡ own
Names (task.Attach f v name altitude) s = (s ≡ step.Attach worker_0 f v name altitude) ⊎ (s ≡ step.SetupDone worker_0 true)
Names (task.Next k o) s = s ≡ step.Next k o
Names (task.Pre k answer) s = (own : Data) × (s ≡ step.PreReturned k answer own)
Names (task.Base k) s = IsBase k s
Names (task.Post k answer) s = (own : Option Data) × (s ≡ step.PostReturned k answer own)
Names (task.Go k o) s = (s ≡ step.Next k o) ⊎ (IsPre k s ⊎ (IsBase k s ⊎ (IsPost k s ⊎ (s ≡ step.Collect o))))
Names _ s = ⊥

pub record RunsBy (t : Task) (old new : Interpreter) : Type 0 where
  pub steps : List Step
  pub replies : List StepReply
  pub run : Run old.session.world steps replies new.session.world
  pub named : AllByRecursion (Names t) steps

unfoldable pub TasksAreRuns : Type 0
TasksAreRuns =
    (t : Task) (result : Result (Unit {0}) ScriptEnd) (old new : Interpreter) (before after : Printed) → PerformsOr t result old new before after
    → RunsBy t old new
