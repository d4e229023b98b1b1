-- Whatever a task makes is a run of the events that it names.
use Rattle.std.proofs.Common.{◌≡◌, inl, inr, true, List, [], ◌∷◌, ◌++◌, Option, Some, None, Result, Ok, Err, refl, ap, subst, ◌∙◌}
use Rattle.std.specs.List.{AllByRecursion}
use Rattle.fm_script.specs.Words.{InstanceId, OpId, WorkerId, Status, Data, Answer, BaseCall, PreVerdict, PostVerdict, World, Step, StepReply}
use Rattle.fm_script.specs.Words.{Task}
use Rattle.fm_world.specs.Steps.{Run, Steps}
use Rattle.fm_world.specs.declared.step.Step.TheVariants as step
use Rattle.fm_world.specs.declared.step.StepReply.TheVariants as reply
use Rattle.fm_session.specs.Sessions.{Lending, ReturnsPre, ReturnsPost, ReturnsBase, pre_in, post_in, base_in, lent_to}
use Rattle.fm_script.specs.Devices.{Calls}
use Rattle.fm_script.specs.Events.{Names, RunsBy, TasksAreRuns}
use Rattle.fm_script.specs.Printing.{Says}
use Rattle.fm_script.specs.Runs.{Performs, Accepts, Acts, Goes, IsTurn, Turns, worker_0}
use Rattle.fm_script.specs.declared.devices.Devices.{Devices}
use Rattle.fm_script.specs.declared.interpreter.Interpreter.{Interpreter}
use Rattle.fm_script.specs.declared.said.Said.{Said}
use Rattle.fm_script.specs.declared.task.Task.TheVariants as task

-- a run of events that pass a test
record RunOf (P : Step → Type 0) (old new : World) : Type 0 where
  steps : List Step
  replies : List StepReply
  run : Run old steps replies new
  passed : AllByRecursion P steps

none : (P : Step → Type 0) (old new : World) → new ≡ old → RunOf P old new
none P old new same = record { steps = []; replies = []; run = same; passed = tt }

one : (P : Step → Type 0) (old new : World) (s : Step) (r : StepReply) → P s → Steps old s r new → RunOf P old new
one P old new s r passes event = record { steps = s ∷ []; replies = r ∷ []; run = (new, event, refl); passed = (passes, tt) }

run_then : (first second : List Step) (fr sr : List StepReply) (old mid new : World)
    → Run old first fr mid → Run mid second sr new → Run old (first ++ second) (fr ++ sr) new
run_then [] second [] sr old mid new before after = subst (λ (w : World). Run w second sr new) before after
run_then [] second (r ∷ fr) sr old mid new before after = absurd before
run_then (s ∷ first) second [] sr old mid new before after = absurd before
run_then (s ∷ first) second (r ∷ fr) sr old mid new (between, event, before) after =
    (between, event, run_then first second fr sr between mid new before after)

all_then : (P : Step → Type 0) (first second : List Step) → AllByRecursion P first → AllByRecursion P second → AllByRecursion P (first ++ second)
all_then P [] second before after = after
all_then P (s ∷ first) second (here, before) after = (here, all_then P first second before after)

both : {P : Step → Type 0} {old mid new : World} → RunOf P old mid → RunOf P mid new → RunOf P old new
both {P} {old} {mid} {new} before after = record {
  steps = before.steps ++ after.steps;
  replies = before.replies ++ after.replies;
  run = run_then before.steps after.steps before.replies after.replies old mid new before.run after.run;
  passed = all_then P before.steps after.steps before.passed after.passed;
}

-- ---- returns

pre_runs : {P : Step → Type 0} (old new : Lending) (k : WorkerId) (answer : PreVerdict) (r : Result (Unit {0}) Status) (lent : Option Data)
    → ((own : Data) → P (step.PreReturned k answer own)) → ReturnsPre old k answer r new lent → RunOf P old.world new.world
pre_runs {P} old new k answer r None is (_, same) = none P old.world new.world (ap (λ (l : Lending). l.world) same)
pre_runs {P} old new k answer r (Some own) is (event, _) = one P old.world new.world (step.PreReturned k answer own) (reply.Done r) (is own) event

post_runs : {P : Step → Type 0} (old new : Lending) (k : WorkerId) (answer : PostVerdict) (r : Result (Unit {0}) Status) (lent : Option (Option Data))
    → ((own : Option Data) → P (step.PostReturned k answer own)) → ReturnsPost old k answer r new lent → RunOf P old.world new.world
post_runs {P} old new k answer r None is (_, same) = none P old.world new.world (ap (λ (l : Lending). l.world) same)
post_runs {P} old new k answer r (Some own) is (event, _) = one P old.world new.world (step.PostReturned k answer own) (reply.Done r) (is own) event

base_runs : {P : Step → Type 0} (old new : Lending) (below after : Devices) (k : WorkerId) (r : Result Status Status) (lent : Option BaseCall)
    → ((call : BaseCall) (answer : Answer) → P (step.BaseReturned k call answer)) → ReturnsBase Calls old below k r new after lent → RunOf P old.world new.world
base_runs {P} old new below after k r None is ((_, same), _) = none P old.world new.world (ap (λ (l : Lending). l.world) same)
base_runs {P} old new below after k r (Some call) is (answer, own, _, event, _, _) =
    one P old.world new.world (step.BaseReturned k call answer) (reply.Done own) (is call answer) event

-- ---- tasks

acts_run : {P : Step → Type 0} (t : Task) (Prints : Said → Type 0) (old new : Interpreter) → ((s : Step) → Names t s → P s) → Acts t Prints old new
    → RunOf P old.session.world new.session.world
acts_run {P} (task.Event s) Prints old new is (r, made, _) = one P old.session.world new.session.world s r (is s refl) made.event
acts_run {P} (task.Next k o) Prints old new is (r, (own, event, _, _), _, _) =
    one P old.session.world new.session.world (step.Next k o) (reply.Action own) (is (step.Next k o) refl) event
acts_run {P} (task.Pre k answer) Prints old new is (r, event, _, _) =
    pre_runs old.session new.session k answer r (pre_in (lent_to old.session.lent k)) (λ own. is (step.PreReturned k answer own) (own, refl)) event
acts_run {P} (task.Base k) Prints old new is (r, event, _, _) =
    base_runs old.session new.session old.devices new.devices k r (base_in (lent_to old.session.lent k))
    (λ call answer. is (step.BaseReturned k call answer) (call, answer, refl)) event
acts_run {P} (task.Post k answer) Prints old new is (r, event, _, _) =
    post_runs old.session new.session k answer r (post_in (lent_to old.session.lent k)) (λ own. is (step.PostReturned k answer own) (own, refl)) event
acts_run {P} t Prints old new is acts = absurd acts

turn_named : (k : WorkerId) (o : OpId) (t : Task) → IsTurn k o t → (s : Step) → Names t s → Names (task.Go k o) s
turn_named k o (task.Next by own) (worker, operation) s is = inl (is ∙ ap (λ (w : WorkerId). step.Next w own) worker ∙ ap (step.Next k) operation)
turn_named k o (task.Pre by answer) worker s (own, is) = inr (inl (answer, own, is ∙ ap (λ (w : WorkerId). step.PreReturned w answer own) worker))
turn_named k o (task.Base by) worker s (call, answer, is) =
    inr (inr (inl (call, answer, is ∙ ap (λ (w : WorkerId). step.BaseReturned w call answer) worker)))
turn_named k o (task.Post by answer) (worker, finished) s (own, is) =
    inr (inr (inr (inl
    (own, is ∙ ap (λ (w : WorkerId). step.PostReturned w answer own) worker ∙ ap (λ (v : PostVerdict). step.PostReturned k v own) finished))))
turn_named k o (task.Event own) collects s is = inr (inr (inr (inr (is ∙ collects))))
turn_named k o t turn s is = absurd turn

turns_run : (k : WorkerId) (o : OpId) (turns : List Task) (old new : Interpreter) → Turns k o turns old new
    → RunOf (Names (task.Go k o)) old.session.world new.session.world
turns_run k o [] old new same =
    none (Names (task.Go k o)) old.session.world new.session.world (ap (λ (i : Interpreter). i.session.world) same)
turns_run k o (t ∷ before) old new (is, mid, first, acts) =
    both (turns_run k o before old mid first) (acts_run t (λ line. Unit {0}) mid new (turn_named k o t is) acts)

goes_run : (k : WorkerId) (o : OpId) (old new : Interpreter) → Goes k o old new → RunOf (Names (task.Go k o)) old.session.world new.session.world
unfolding Goes
goes_run k o old new (turns, all) = turns_run k o turns old new all

accepts_run : {P : Step → Type 0} (mid new : World) (r result : Result InstanceId Status) → P (step.SetupDone worker_0 true)
    → Accepts mid r result new → RunOf P mid new
accepts_run {P} mid new (Ok i) result is (done, event, _) = one P mid new (step.SetupDone worker_0 true) (reply.Done done) is event
accepts_run {P} mid new (Err status) result is (same, _) = none P mid new same

runs_by : (t : Task) (old new : Interpreter) → RunOf (Names t) old.session.world new.session.world → RunsBy t old new
runs_by t old new own = record { steps = own.steps; replies = own.replies; run = own.run; named = own.passed }

still : (t : Task) (old new : Interpreter) → new.session ≡ old.session → RunsBy t old new
still t old new same = runs_by t old new (none (Names t) old.session.world new.session.world (ap (λ (l : Lending). l.world) same))

acts_by : (t : Task) (Prints : Said → Type 0) (old new : Interpreter) → Acts t Prints old new → RunsBy t old new
acts_by t Prints old new acts = runs_by t old new (acts_run t Prints old new (λ s is. is) acts)

performed : (t : Task) (Prints : Said → Type 0) (old new : Interpreter) → Performs t Prints old new → RunsBy t old new
performed (task.Event s) Prints old new acts = acts_by (task.Event s) Prints old new acts
performed (task.Attach f v name altitude) Prints old new (result, (r, mid, attaches, accepts), _, _, _) =
    runs_by (task.Attach f v name altitude) old new
    (both (one (Names (task.Attach f v name altitude)) old.session.world mid (step.Attach worker_0 f v name altitude) (reply.Instance r) (inl refl) attaches)
    (accepts_run mid new.session.world r result (inr refl) accepts))
performed (task.Next k o) Prints old new acts = acts_by (task.Next k o) Prints old new acts
performed (task.Pre k answer) Prints old new acts = acts_by (task.Pre k answer) Prints old new acts
performed (task.Base k) Prints old new acts = acts_by (task.Base k) Prints old new acts
performed (task.Post k answer) Prints old new acts = acts_by (task.Post k answer) Prints old new acts
performed (task.Go k o) Prints old new goes = runs_by (task.Go k o) old new (goes_run k o old new goes)
performed (task.Plan i answer) Prints old new plans = still (task.Plan i answer) old new plans.0.manager.session
performed (task.Phase i) Prints old new (same, _) = still (task.Phase i) old new (ap (λ (i : Interpreter). i.session) same)
performed (task.Flight i) Prints old new (same, _) = still (task.Flight i) old new (ap (λ (i : Interpreter). i.session) same)
performed (task.Count c) Prints old new (same, _) = still (task.Count c) old new (ap (λ (i : Interpreter). i.session) same)
performed task.Leaks Prints old new (same, _) = still task.Leaks old new (ap (λ (i : Interpreter). i.session) same)
performed task.Failures Prints old new (same, _) = still task.Failures old new (ap (λ (i : Interpreter). i.session) same)
performed (task.Fail n) Prints old new fails = still (task.Fail n) old new fails.0.session

pub tasks_are_runs : TasksAreRuns
unfolding TasksAreRuns
tasks_are_runs t result old new before after (inl performs) = performed t (λ line. Says line result before after) old new performs
tasks_are_runs t result old new before after (inr wants) = still t old new wants.stays.0.session
