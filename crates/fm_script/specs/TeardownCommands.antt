-- What the commands by which instances are detached, routines entered, filters unloaded and volumes dismounted stand for.
use Rattle.std.specs.Prelude.{ℕ, List, [], ◌∷◌, Option, Some, None, Result, Ok, Err}
use Rattle.fm_script.specs.Words.{FilterId, InstanceId, WorkerId, Status, BadRequest, World, Keyword, Task, ◌>>=◌}
use Rattle.fm_world.specs.declared.step.Step.TheVariants as step
use Rattle.fm_script.specs.declared.keyword.Keyword.TheVariants as keyword
use Rattle.fm_script.specs.declared.task.Task.TheVariants as task
use Rattle.fm_script.specs.Ids.{filter_in, handle_in, instance_in, worker_in}
use Rattle.fm_script.specs.Tasks.{filter_ids, handle_id, instance_ids, one_id, only_instance, only_volume, only_worker, answered_read, event}

-- a worker and the instance whose callback it enters
abbrev pub worker_and_instance : World → ℕ → ℕ → Result (WorkerId × InstanceId) Status
worker_and_instance w k i = instance_in w i >>= λ own. worker_in k >>= λ by. Ok (by, own)

-- the same, as the only words
abbrev pub asked_instance : World → List (List ℕ) → Result (WorkerId × InstanceId) Status
asked_instance w (worker ∷ instance ∷ []) = instance_ids worker instance >>= λ ids. worker_and_instance w ids.0 ids.1
asked_instance w _ = Err BadRequest

-- a routine of an instance, on the file of a handle
abbrev pub enter_on : World → List ℕ → List ℕ → List ℕ → Result Task Status
enter_on w worker instance handle =
    instance_ids worker instance >>= λ ids. handle_id handle >>= λ h. handle_in w h >>= λ on. worker_and_instance w ids.0 ids.1
    >>= λ both. event (step.EnterRoutine both.0 both.1 (Some on))

-- a routine of an instance, on no file or on one
abbrev pub enter_read : World → List (List ℕ) → Result Task Status
enter_read w (worker ∷ instance ∷ []) =
    instance_ids worker instance >>= λ ids. worker_and_instance w ids.0 ids.1 >>= λ both. event (step.EnterRoutine both.0 both.1 None)
enter_read w (worker ∷ instance ∷ handle ∷ []) = enter_on w worker instance handle
enter_read w _ = Err BadRequest

-- a worker and the filter whose callback it enters
abbrev pub worker_and_filter : World → ℕ → ℕ → Result (WorkerId × FilterId) Status
worker_and_filter w k f = filter_in w f >>= λ own. worker_in k >>= λ by. Ok (by, own)

-- the same, as the only words
abbrev pub asked_filter : World → List (List ℕ) → Result (WorkerId × FilterId) Status
asked_filter w (worker ∷ filter ∷ []) = filter_ids worker filter >>= λ ids. worker_and_filter w ids.0 ids.1
asked_filter w _ = Err BadRequest

-- the filter that is the only word
abbrev pub only_filter : World → List (List ℕ) → Result FilterId Status
only_filter w words = one_id 102 words >>= filter_in w

-- the words behind a keyword
abbrev pub teardown_read : World → Keyword → List (List ℕ) → Result Task Status
teardown_read w keyword.Query words = asked_instance w words >>= λ both. event (step.AskDetach both.0 both.1)
teardown_read w keyword.Queried words = answered_read words >>= λ both. event (step.QueryReturned both.0 both.1)
teardown_read w keyword.Start words = asked_instance w words >>= λ both. event (step.StartTeardown both.0 both.1)
teardown_read w keyword.Started words = only_worker words >>= λ by. event (step.StartReturned by)
teardown_read w keyword.Complete words = asked_instance w words >>= λ both. event (step.CompleteTeardown both.0 both.1)
teardown_read w keyword.Completed words = only_worker words >>= λ by. event (step.CompleteReturned by)
teardown_read w keyword.Enter words = enter_read w words
teardown_read w keyword.Left words = only_worker words >>= λ by. event (step.RoutineReturned by)
teardown_read w keyword.Finish words = only_instance w words >>= λ own. event (step.Finish own)
teardown_read w keyword.Unload words = asked_filter w words >>= λ both. event (step.AskUnload both.0 both.1)
teardown_read w keyword.Unloaded words = answered_read words >>= λ both. event (step.UnloadReturned both.0 both.1)
teardown_read w keyword.EmptyF words = only_filter w words >>= λ own. event (step.EmptyFilter own)
teardown_read w keyword.FinishF words = only_filter w words >>= λ own. event (step.FinishFilter own)
teardown_read w keyword.Drain words = asked_instance w words >>= λ both. event (step.DrainTake both.0 both.1)
teardown_read w keyword.Drained words = only_worker words >>= λ by. event (step.DrainDone by)
teardown_read w keyword.Dismount words = only_volume w words >>= λ at. event (step.StartDismount at)
teardown_read w keyword.Drop words = only_volume w words >>= λ at. event (step.DropHandle at)
teardown_read w keyword.EmptyV words = only_volume w words >>= λ at. event (step.EmptyVolume at)
teardown_read w keyword.FinishV words = only_volume w words >>= λ at. event (step.FinishVolume at)
teardown_read w keyword.Flight words = only_instance w words >>= λ own. Ok (task.Flight own)
teardown_read w _ words = Err BadRequest
