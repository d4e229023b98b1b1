-- What the commands on contexts stand for.
use Rattle.std.specs.Prelude.{ℕ, Bool, true, false, List, [], ◌∷◌, Result, Ok, Err, codes, bytes_eq, cond}
use Rattle.fm_script.specs.Words.{CtxId, WorkerId, Status, BadRequest, Keyword, Task, ◌>>=◌}
use Rattle.fm_types.specs.declared.context_kind.ContextKind.{ContextKind}
use Rattle.fm_types.specs.declared.context_kind.ContextKind.TheVariants as kind
use Rattle.fm_ctx.specs.declared.set_reply.SetMode.{SetMode}
use Rattle.fm_ctx.specs.declared.set_reply.SetMode.TheVariants as mode
use Rattle.fm_world.specs.declared.step.Step.TheVariants as step
use Rattle.fm_script.specs.declared.keyword.Keyword.TheVariants as keyword
use Rattle.fm_script.specs.declared.task.Task.TheVariants as task
use Rattle.fm_script.specs.Ids.{context_in, worker_in}
use Rattle.fm_script.specs.Tasks.{worker_id, one_id, only_worker, with_worker, held_ids, held_in, numbers_read, event}

-- ---- words

abbrev pub kind_read : List ℕ → Result ContextKind Status
kind_read word =
    cond (bytes_eq word (codes "volume")) (Ok kind.Volume)
    (cond (bytes_eq word (codes "instance")) (Ok kind.Instance)
    (cond (bytes_eq word (codes "stream")) (Ok kind.Stream)
    (cond (bytes_eq word (codes "handle")) (Ok kind.Handle) (cond (bytes_eq word (codes "file")) (Ok kind.File) (Err BadRequest)))))

abbrev pub mode_read : List ℕ → Result SetMode Status
mode_read word = cond (bytes_eq word (codes "keep")) (Ok mode.Keep) (cond (bytes_eq word (codes "replace")) (Ok mode.Replace) (Err BadRequest))

-- `old`, or nothing
abbrev pub old_read : List (List ℕ) → Result Bool Status
old_read [] = Ok false
old_read (word ∷ []) = cond (bytes_eq word (codes "old")) (Ok true) (Err BadRequest)
old_read _ = Err BadRequest

-- a worker and a context, as the only words
abbrev pub held_read : List CtxId → List (List ℕ) → Result (WorkerId × CtxId) Status
held_read contexts (worker ∷ context ∷ []) = held_ids worker context >>= λ ids. held_in contexts ids.0 ids.1
held_read contexts _ = Err BadRequest

-- a worker and a kind, as the only words
abbrev pub kind_of_read : List (List ℕ) → Result (WorkerId × ContextKind) Status
kind_of_read (worker ∷ kind' ∷ []) = with_worker worker (kind_read kind')
kind_of_read _ = Err BadRequest

-- ---- commands

-- how a context is set
abbrev pub manner_read : List ℕ → List (List ℕ) → Result (SetMode × Bool) Status
manner_read word rest = mode_read word >>= λ m. old_read rest >>= λ old. Ok (m, old)

unfoldable pub set_as : List CtxId → List ℕ → List ℕ → List ℕ → List (List ℕ) → Result Task Status
set_as contexts worker context mode' rest =
    held_ids worker context >>= λ ids. manner_read mode' rest >>= λ how. held_in contexts ids.0 ids.1 >>= λ both. event (step.Set both.0 both.1 how.0 how.1)

abbrev pub set_read : List CtxId → List (List ℕ) → Result Task Status
set_read contexts (worker ∷ context ∷ mode' ∷ rest) = set_as contexts worker context mode' rest
set_read contexts _ = Err BadRequest

unfoldable pub delete_as : List ℕ → List ℕ → List (List ℕ) → Result Task Status
delete_as worker kind' rest = worker_id worker >>= λ k. kind_read kind' >>= λ of. old_read rest >>= λ old. worker_in k >>= λ w. event (step.Delete w of old)

abbrev pub delete_read : List (List ℕ) → Result Task Status
delete_read (worker ∷ kind' ∷ rest) = delete_as worker kind' rest
delete_read _ = Err BadRequest

unfoldable pub bump_at : List CtxId → ℕ × ℕ → ℕ × ℕ → Result Task Status
bump_at contexts ids n = held_in contexts ids.0 ids.1 >>= λ both. event (step.Bump both.0 both.1 n.0 n.1)

unfoldable pub bump_as : List CtxId → List ℕ → List ℕ → List ℕ → List ℕ → Result Task Status
bump_as contexts worker context place by = held_ids worker context >>= λ ids. numbers_read place by >>= λ n. bump_at contexts ids n

abbrev pub bump_read : List CtxId → List (List ℕ) → Result Task Status
bump_read contexts (worker ∷ context ∷ place ∷ by ∷ []) = bump_as contexts worker context place by
bump_read contexts _ = Err BadRequest

abbrev pub leaks_read : List (List ℕ) → Result Task Status
leaks_read [] = Ok task.Leaks
leaks_read _ = Err BadRequest

-- the words behind a keyword
abbrev pub context_read : List CtxId → Keyword → List (List ℕ) → Result Task Status
context_read contexts keyword.Set words = set_read contexts words
context_read contexts keyword.Get words = kind_of_read words >>= λ both. event (step.Get both.0 both.1)
context_read contexts keyword.Del words = delete_read words
context_read contexts keyword.Ref words = held_read contexts words >>= λ both. event (step.Reference both.0 both.1)
context_read contexts keyword.Rel words = held_read contexts words >>= λ both. event (step.Release both.0 both.1)
context_read contexts keyword.Body words = held_read contexts words >>= λ both. event (step.ReadBody both.0 both.1)
context_read contexts keyword.Bump words = bump_read contexts words
context_read contexts keyword.Due words = only_worker words >>= λ w. event (step.TakeDue w)
context_read contexts keyword.Cleaned words = only_worker words >>= λ w. event (step.Cleaned w 0)
context_read contexts keyword.Count words = one_id 99 words >>= λ c. context_in contexts c >>= λ own. Ok (task.Count own)
context_read contexts keyword.Leaks words = leaks_read words
context_read contexts _ words = Err BadRequest

-- the same with the bytes that one more word spells
abbrev pub allocate_read : List (List ℕ) → List ℕ → Result Task Status
allocate_read words bytes = kind_of_read words >>= λ both. event (step.Allocate both.0 both.1 bytes)

abbrev pub write_body_read : List CtxId → List (List ℕ) → List ℕ → Result Task Status
write_body_read contexts words bytes = held_read contexts words >>= λ both. event (step.WriteBody both.0 both.1 bytes)
