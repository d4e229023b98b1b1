-- An event as a value, with its answer; and lists of them.
use Rattle.std.specs.Prelude.{◌≡◌, ℕ, Option, List, [], ◌∷◌, Result}
use Rattle.fm_callback_data.specs.declared.verdict.Completion.{Completion}
use Rattle.fm_world.specs.Words.{FilterId, VolumeId, InstanceId, OpId, HandleId, CtxId, Status, Answer, Due, FlowAction}
use Rattle.fm_world.specs.declared.set_answer.SetAnswer.{SetAnswer}
use Rattle.fm_world.specs.declared.step.Step.{Step}
use Rattle.fm_world.specs.declared.step.Step.TheVariants as step
use Rattle.fm_world.specs.declared.step.StepReply.{StepReply}
use Rattle.fm_world.specs.declared.step.StepReply.TheVariants as reply
use Rattle.fm_world.specs.World.{World}
use Rattle.fm_world.specs.ContextEvents.{Allocates, Sets, Gets, Deletes, References, Releases, ReadsBody, WritesBody, Bumps, TakesDue, Cleans, Finishes}
use Rattle.fm_world.specs.Teardowns.{AsksDetach, QueryReturns, StartsTeardown, StartReturns, CompletesTeardown, CompleteReturns}
use Rattle.fm_world.specs.EarlyDrains.{TakesDrain, DrainReturns}
use Rattle.fm_world.specs.Routines.{EntersRoutine, RoutineReturns}
use Rattle.fm_world.specs.Initiators.{BeginsLower}
use Rattle.fm_world.specs.Changes.{ChangesHeld}
use Rattle.fm_world.specs.Dismounts.{StartsDismount, DropsHandle, EmptiesVolume, FinishesVolume}
use Rattle.fm_world.specs.Teardowns.{AsksUnload, UnloadReturns, ForcesUnload, EmptiesFilter, FinishesFilter}
use Rattle.fm_world.specs.Events.{Registers, Mounts, Attaches, SetsUp, Begins, Nexts, PreReturns, BaseReturns, PostReturns, ResumesPre, ResumesPost, FindsHeld, Collects}

-- the answer is of that kind, and this holds of it
abbrev pub OfFilter : StepReply → (Result FilterId Status → Type 0) → Type 0
OfFilter (reply.Filter r) P = P r
OfFilter _ P = ⊥

abbrev pub OfVolume : StepReply → (Result VolumeId Status → Type 0) → Type 0
OfVolume (reply.Volume r) P = P r
OfVolume _ P = ⊥

abbrev pub OfInstance : StepReply → (Result InstanceId Status → Type 0) → Type 0
OfInstance (reply.Instance r) P = P r
OfInstance _ P = ⊥

abbrev pub OfOperation : StepReply → (Result OpId Status → Type 0) → Type 0
OfOperation (reply.Operation r) P = P r
OfOperation _ P = ⊥

abbrev pub OfAction : StepReply → (Result FlowAction Status → Type 0) → Type 0
OfAction (reply.Action r) P = P r
OfAction _ P = ⊥

abbrev pub OfDone : StepReply → (Result (Unit {0}) Status → Type 0) → Type 0
OfDone (reply.Done r) P = P r
OfDone _ P = ⊥

abbrev pub OfContext : StepReply → (Result CtxId Status → Type 0) → Type 0
OfContext (reply.Context r) P = P r
OfContext _ P = ⊥

abbrev pub OfSet : StepReply → (SetAnswer → Type 0) → Type 0
OfSet (reply.Set r) P = P r
OfSet _ P = ⊥

abbrev pub OfOld : StepReply → (Result (Option CtxId) Status → Type 0) → Type 0
OfOld (reply.Old r) P = P r
OfOld _ P = ⊥

abbrev pub OfBody : StepReply → (Result (List ℕ) Status → Type 0) → Type 0
OfBody (reply.Body r) P = P r
OfBody _ P = ⊥

abbrev pub OfNumber : StepReply → (Result ℕ Status → Type 0) → Type 0
OfNumber (reply.Number r) P = P r
OfNumber _ P = ⊥

abbrev pub OfDue : StepReply → (Result (Option Due) Status → Type 0) → Type 0
OfDue (reply.Due r) P = P r
OfDue _ P = ⊥

abbrev pub OfHeld : StepReply → (Result (Option OpId) Status → Type 0) → Type 0
OfHeld (reply.Held r) P = P r
OfHeld _ P = ⊥

abbrev pub OfDrained : StepReply → (Result (Option (OpId × Completion)) Status → Type 0) → Type 0
OfDrained (reply.Drained r) P = P r
OfDrained _ P = ⊥

abbrev pub OfDropped : StepReply → (Result (Option HandleId) Status → Type 0) → Type 0
OfDropped (reply.Dropped r) P = P r
OfDropped _ P = ⊥

abbrev pub OfAnswer : StepReply → (Result Answer Status → Type 0) → Type 0
OfAnswer (reply.Answer r) P = P r
OfAnswer _ P = ⊥

-- the event answers so, and leads from the old World to the new one
abbrev pub Steps : World → Step → StepReply → World → Type 0
Steps old (step.Register name registration) answer new = OfFilter answer (λ r. Registers old name registration r new)
Steps old (step.Mount name) answer new = OfVolume answer (λ r. Mounts old name r new)
Steps old (step.Attach k f v name altitude) answer new = OfInstance answer (λ r. Attaches old k f v name altitude r new)
Steps old (step.SetupDone k accept) answer new = OfDone answer (λ r. SetsUp old k accept r new)
Steps old (step.Begin what) answer new = OfOperation answer (λ r. Begins old what r new)
Steps old (step.BeginFrom from what) answer new = OfOperation answer (λ r. BeginsLower old from what r new)
Steps old (step.Next k o) answer new = OfAction answer (λ r. Nexts old k o r new)
Steps old (step.PreReturned k verdict lent) answer new = OfDone answer (λ r. PreReturns old k verdict lent r new)
Steps old (step.BaseReturned k call given) answer new = OfDone answer (λ r. BaseReturns old k call given r new)
Steps old (step.PostReturned k verdict lent) answer new = OfDone answer (λ r. PostReturns old k verdict lent r new)
Steps old (step.ResumePre k o verdict) answer new = OfDone answer (λ r. ResumesPre old k o verdict r new)
Steps old (step.ResumePost k o) answer new = OfDone answer (λ r. ResumesPost old k o r new)
Steps old (step.FirstHeld k hold) answer new = OfHeld answer (λ r. FindsHeld old k hold r new)
Steps old (step.Collect o) answer new = OfAnswer answer (λ r. Collects old o r new)
Steps old (step.Allocate k kind body) answer new = OfContext answer (λ r. Allocates old k kind body r new)
Steps old (step.Set k c mode wants) answer new = OfSet answer (λ r. Sets old k c mode wants r new)
Steps old (step.Get k kind) answer new = OfContext answer (λ r. Gets old k kind r new)
Steps old (step.Delete k kind wants) answer new = OfOld answer (λ r. Deletes old k kind wants r new)
Steps old (step.Reference k c) answer new = OfDone answer (λ r. References old k c r new)
Steps old (step.Release k c) answer new = OfDone answer (λ r. Releases old k c r new)
Steps old (step.ReadBody k c) answer new = OfBody answer (λ r. ReadsBody old k c r new)
Steps old (step.WriteBody k c bytes) answer new = OfDone answer (λ r. WritesBody old k c bytes r new)
Steps old (step.Bump k c at by) answer new = OfNumber answer (λ r. Bumps old k c at by r new)
Steps old (step.TakeDue k) answer new = OfDue answer (λ r. TakesDue old k r new)
Steps old (step.Cleaned k number) answer new = OfDone answer (λ r. Cleans old k number r new)
Steps old (step.AskDetach k i) answer new = OfDone answer (λ r. AsksDetach old k i r new)
Steps old (step.QueryReturned k allow) answer new = OfDone answer (λ r. QueryReturns old k allow r new)
Steps old (step.StartTeardown k i) answer new = OfDone answer (λ r. StartsTeardown old k i r new)
Steps old (step.StartReturned k) answer new = OfDone answer (λ r. StartReturns old k r new)
Steps old (step.DrainTake k i) answer new = OfDrained answer (λ r. TakesDrain old k i r new)
Steps old (step.DrainDone k) answer new = OfDone answer (λ r. DrainReturns old k r new)
Steps old (step.CompleteTeardown k i) answer new = OfDone answer (λ r. CompletesTeardown old k i r new)
Steps old (step.CompleteReturned k) answer new = OfDone answer (λ r. CompleteReturns old k r new)
Steps old (step.EnterRoutine k i h) answer new = OfDone answer (λ r. EntersRoutine old k i h r new)
Steps old (step.RoutineReturned k) answer new = OfDone answer (λ r. RoutineReturns old k r new)
Steps old (step.Finish i) answer new = OfDone answer (λ r. Finishes old i r new)
Steps old (step.AskUnload k f) answer new = OfDone answer (λ r. AsksUnload old k f r new)
Steps old (step.UnloadReturned k allow) answer new = OfDone answer (λ r. UnloadReturns old k allow r new)
Steps old (step.ForceUnload f) answer new = OfDone answer (λ r. ForcesUnload old f r new)
Steps old (step.EmptyFilter f) answer new = OfDone answer (λ r. EmptiesFilter old f r new)
Steps old (step.FinishFilter f) answer new = OfDone answer (λ r. FinishesFilter old f r new)
Steps old (step.StartDismount v) answer new = OfDone answer (λ r. StartsDismount old v r new)
Steps old (step.DropHandle v) answer new = OfDropped answer (λ r. DropsHandle old v r new)
Steps old (step.EmptyVolume v) answer new = OfDone answer (λ r. EmptiesVolume old v r new)
Steps old (step.FinishVolume v) answer new = OfDone answer (λ r. FinishesVolume old v r new)
Steps old (step.ChangeHeld k o params) answer new = OfDone answer (λ r. ChangesHeld old k o params r new)

-- the events in their order, each with its answer, lead from the old World to the new one
abbrev pub Run : World → List Step → List StepReply → World → Type 0
Run old [] [] new = new ≡ old
Run old (s ∷ steps) (r ∷ replies) new = (mid : World) × Steps old s r mid × Run mid steps replies new
Run old [] (r ∷ replies) new = ⊥
Run old (s ∷ steps) [] new = ⊥

-- the same, and P holds of the World after each event
abbrev pub RunThrough : (World → Type 0) → World → List Step → List StepReply → World → Type 0
RunThrough P old [] [] new = new ≡ old
RunThrough P old (s ∷ steps) (r ∷ replies) new = (mid : World) × Steps old s r mid × P mid × RunThrough P mid steps replies new
RunThrough P old [] (r ∷ replies) new = ⊥
RunThrough P old (s ∷ steps) [] new = ⊥
