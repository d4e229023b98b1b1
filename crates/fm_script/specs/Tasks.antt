-- What words are read as, one after the other: first all of them as numbers and ids, 32 where one can't be read, and then whether the ids are there, each
-- kind of id before the next, and workers last.
use Rattle.std.specs.Prelude.{ℕ, Bool, true, false, List, [], ◌∷◌, Option, Some, None, Result, Ok, Err, codes, bytes_eq, cond}
use Rattle.fm_script.specs.Words.{CtxId, InstanceId, OpId, VolumeId, WorkerId, Status, BadRequest, World, Step, Task, id_read, number_read}
use Rattle.fm_script.specs.Words.{◌>>=◌}
use Rattle.fm_script.specs.declared.task.Task.TheVariants as task
use Rattle.fm_script.specs.Ids.{context_in, instance_in, operation_in, volume_in, worker_in}

abbrev pub or_bad : {T : Type 0} → Option T → Result T Status
or_bad None = Err BadRequest
or_bad (Some x) = Ok x

-- the number of an id behind its letter: h, i, v or w
abbrev pub handle_id : List ℕ → Result ℕ Status
handle_id word = or_bad (id_read 104 word)

abbrev pub instance_id : List ℕ → Result ℕ Status
instance_id word = or_bad (id_read 105 word)

abbrev pub volume_id : List ℕ → Result ℕ Status
volume_id word = or_bad (id_read 118 word)

abbrev pub worker_id : List ℕ → Result ℕ Status
worker_id word = or_bad (id_read 119 word)

-- a worker, and what is read behind it
unfoldable pub with_worker : {T : Type 0} → List ℕ → Result T Status → Result (WorkerId × T) Status
with_worker worker read = worker_id worker >>= λ k. read >>= λ it. worker_in k >>= λ by. Ok (by, it)

-- the id that is the only word
abbrev pub one_id : ℕ → List (List ℕ) → Result ℕ Status
one_id letter (word ∷ []) = or_bad (id_read letter word)
one_id letter _ = Err BadRequest

-- the worker that is the only word
abbrev pub only_worker : List (List ℕ) → Result WorkerId Status
only_worker words = one_id 119 words >>= worker_in

-- the volume that is the only word
abbrev pub only_volume : World → List (List ℕ) → Result VolumeId Status
only_volume w words = one_id 118 words >>= volume_in w

-- the instance that is the only word
abbrev pub only_instance : World → List (List ℕ) → Result InstanceId Status
only_instance w words = one_id 105 words >>= instance_in w

abbrev pub yes_or_no : List ℕ → Result Bool Status
yes_or_no word = cond (bytes_eq word (codes "yes")) (Ok true) (cond (bytes_eq word (codes "no")) (Ok false) (Err BadRequest))

-- a worker, and whether its callback agrees, as the only words
abbrev pub answered_read : List (List ℕ) → Result (WorkerId × Bool) Status
answered_read (worker ∷ word ∷ []) = with_worker worker (yes_or_no word)
answered_read _ = Err BadRequest

-- a context and the worker that says it holds it
abbrev pub held_in : List CtxId → ℕ → ℕ → Result (WorkerId × CtxId) Status
held_in contexts k c = context_in contexts c >>= λ own. worker_in k >>= λ w. Ok (w, own)

-- the numbers of two ids, each behind its letter
unfoldable pub ids_read : ℕ → List ℕ → ℕ → List ℕ → Result (ℕ × ℕ) Status
ids_read first one second other = or_bad (id_read first one) >>= λ m. or_bad (id_read second other) >>= λ n. Ok (m, n)

-- of a worker and an operation, a context, an instance or a filter, and of a filter and a volume
abbrev pub turn_ids : List ℕ → List ℕ → Result (ℕ × ℕ) Status
turn_ids worker operation = ids_read 119 worker 111 operation

abbrev pub held_ids : List ℕ → List ℕ → Result (ℕ × ℕ) Status
held_ids worker context = ids_read 119 worker 99 context

abbrev pub instance_ids : List ℕ → List ℕ → Result (ℕ × ℕ) Status
instance_ids worker instance = ids_read 119 worker 105 instance

abbrev pub filter_ids : List ℕ → List ℕ → Result (ℕ × ℕ) Status
filter_ids worker filter = ids_read 119 worker 102 filter

abbrev pub place_ids : List ℕ → List ℕ → Result (ℕ × ℕ) Status
place_ids filter volume = ids_read 102 filter 118 volume

-- an operation and the worker that takes a turn with it
abbrev pub turn_in : World → ℕ → ℕ → Result (WorkerId × OpId) Status
turn_in w k o = operation_in w o >>= λ own. worker_in k >>= λ by. Ok (by, own)

-- two numbers
unfoldable pub numbers_read : List ℕ → List ℕ → Result (ℕ × ℕ) Status
numbers_read one other = or_bad (number_read one) >>= λ m. or_bad (number_read other) >>= λ n. Ok (m, n)

-- one event
abbrev pub event : Step → Result Task Status
event s = Ok (task.Event s)
