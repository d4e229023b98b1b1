-- Which worker an event names, and what the event makes of the number of references that this worker holds: for a lock above the state, which counts hands and
-- sees no World.
use Rattle.std.specs.Prelude.{◌≡◌, ℕ, ◌+◌, ◌≤◌, Option, Some, None, Result, Ok, Err}
use Rattle.fm_callback_data.specs.declared.verdict.PreVerdict.{PreVerdict}
use Rattle.fm_callback_data.specs.declared.verdict.PreVerdict.TheVariants as verdict
use Rattle.fm_types.specs.declared.status.Status.TheVariants as status
use Rattle.fm_world.specs.Words.{CtxId, WorkerId, Status}
use Rattle.fm_world.specs.World.{World}
use Rattle.fm_world.specs.Hands.{OnlyHandOf, KeepsHands, hand_len, given_with, given_by_set, given_by_next, given_by_drain}
use Rattle.fm_world.specs.Steps.{OfAction, OfDone, OfContext, OfSet, OfOld, OfDrained}
use Rattle.fm_world.specs.declared.step.Step.{Step}
use Rattle.fm_world.specs.declared.step.Step.TheVariants as step
use Rattle.fm_world.specs.declared.step.StepReply.{StepReply}

-- the worker that makes the event, if the event names one
abbrev pub worker_of : Step → Option WorkerId
worker_of (step.Register name registration) = None
worker_of (step.Mount name) = None
worker_of (step.Attach k f v name altitude) = Some k
worker_of (step.SetupDone k accept) = Some k
worker_of (step.Begin what) = None
worker_of (step.BeginFrom from what) = None
worker_of (step.Next k o) = Some k
worker_of (step.PreReturned k verdict lent) = Some k
worker_of (step.BaseReturned k call given) = Some k
worker_of (step.PostReturned k verdict lent) = Some k
worker_of (step.ResumePre k o verdict) = Some k
worker_of (step.ResumePost k o) = Some k
worker_of (step.FirstHeld k hold) = Some k
worker_of (step.Collect o) = None
worker_of (step.Allocate k kind body) = Some k
worker_of (step.Set k c mode wants) = Some k
worker_of (step.Get k kind) = Some k
worker_of (step.Delete k kind wants) = Some k
worker_of (step.Reference k c) = Some k
worker_of (step.Release k c) = Some k
worker_of (step.ReadBody k c) = Some k
worker_of (step.WriteBody k c bytes) = Some k
worker_of (step.Bump k c at by) = Some k
worker_of (step.TakeDue k) = Some k
worker_of (step.Cleaned k number) = Some k
worker_of (step.AskDetach k i) = Some k
worker_of (step.QueryReturned k allow) = Some k
worker_of (step.StartTeardown k i) = Some k
worker_of (step.StartReturned k) = Some k
worker_of (step.DrainTake k i) = Some k
worker_of (step.DrainDone k) = Some k
worker_of (step.CompleteTeardown k i) = Some k
worker_of (step.CompleteReturned k) = Some k
worker_of (step.EnterRoutine k i h) = Some k
worker_of (step.RoutineReturned k) = Some k
worker_of (step.Finish i) = None
worker_of (step.AskUnload k f) = Some k
worker_of (step.UnloadReturned k allow) = Some k
worker_of (step.ForceUnload f) = None
worker_of (step.EmptyFilter f) = None
worker_of (step.FinishFilter f) = None
worker_of (step.StartDismount v) = None
worker_of (step.DropHandle v) = None
worker_of (step.EmptyVolume v) = None
worker_of (step.FinishVolume v) = None
worker_of (step.ChangeHeld k o params) = Some k

-- so many more where the event succeeds
abbrev pub More : {T : Type 0} → Result T Status → (T → ℕ) → ℕ → ℕ → Type 0
More (Ok value) more old new = new ≡ old + more value
More (Err status) more old new = new ≡ old

-- one fewer where it succeeds
abbrev pub Fewer : Result (Unit {0}) Status → ℕ → ℕ → Type 0
Fewer (Ok done) old new = new + 1 ≡ old
Fewer (Err status) old new = new ≡ old

-- none where it succeeds
abbrev pub Nothing : Result (Unit {0}) Status → ℕ → ℕ → Type 0
Nothing (Ok done) old new = new ≡ 0
Nothing (Err status) old new = new ≡ old

-- none, unless the worker isn't in such a callback: another refusal returns it too
abbrev pub Left : Result (Unit {0}) Status → ℕ → ℕ → Type 0
Left (Err status.WrongStep) old new = new ≡ old
Left _ old new = new ≡ 0

-- the context that a verdict names
abbrev pub context_in : PreVerdict → Option CtxId
context_in (verdict.WithCallback completion) = completion.context
context_in (verdict.Synchronize completion) = completion.context
context_in _ = None

-- at most that one fewer where it succeeds: it goes along where the worker holds it and a postoperation will be made
abbrev pub Resumed : PreVerdict → Result (Unit {0}) Status → ℕ → ℕ → Type 0
Resumed given (Ok done) old new = (new ≤ old) × (old ≤ new + given_with (context_in given))
Resumed given (Err status) old new = new ≡ old

-- from how many references to how many the event leads its worker, by its answer
abbrev pub Holds : Step → StepReply → ℕ → ℕ → Type 0
Holds (step.SetupDone k accept) answer old new = OfDone answer (λ r. Left r old new)
Holds (step.Next k o) answer old new = OfAction answer (λ r. More r given_by_next old new)
Holds (step.PreReturned k verdict lent) answer old new = OfDone answer (λ r. Nothing r old new)
Holds (step.PostReturned k verdict lent) answer old new = OfDone answer (λ r. Nothing r old new)
Holds (step.ResumePre k o given) answer old new = OfDone answer (λ r. Resumed given r old new)
Holds (step.Allocate k kind body) answer old new = OfContext answer (λ r. More r (λ _. 1) old new)
Holds (step.Set k c mode wants) answer old new = OfSet answer (λ r. new ≡ old + given_by_set r)
Holds (step.Get k kind) answer old new = OfContext answer (λ r. More r (λ _. 1) old new)
Holds (step.Delete k kind wants) answer old new = OfOld answer (λ r. More r given_with old new)
Holds (step.Reference k c) answer old new = OfDone answer (λ r. More r (λ _. 1) old new)
Holds (step.Release k c) answer old new = OfDone answer (λ r. Fewer r old new)
Holds (step.QueryReturned k allow) answer old new = OfDone answer (λ r. Left r old new)
Holds (step.StartReturned k) answer old new = OfDone answer (λ r. Left r old new)
Holds (step.DrainTake k i) answer old new = OfDrained answer (λ r. More r given_by_drain old new)
Holds (step.DrainDone k) answer old new = OfDone answer (λ r. Nothing r old new)
Holds (step.CompleteReturned k) answer old new = OfDone answer (λ r. Left r old new)
Holds (step.RoutineReturned k) answer old new = OfDone answer (λ r. Left r old new)
Holds _ answer old new = new ≡ old

-- what an event makes of hands: of its worker's alone, and of none if it names no worker
abbrev pub HandsAfter : Option WorkerId → Step → StepReply → World → World → Type 0
HandsAfter None s answer old new = KeepsHands old new
HandsAfter (Some k) s answer old new = OnlyHandOf k.0 old new × Holds s answer (hand_len k.0 old) (hand_len k.0 new)
