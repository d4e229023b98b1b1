-- What the commands that bring a verdict stand for: that of a preoperation or a postoperation that returns, of a plan, and of an operation that is resumed.
use Rattle.std.specs.Prelude.{◌≡◌, ℕ, ◌<◌, ◌≤◌, Bool, false, List, [], ◌∷◌, Option, Some, None, Result, Ok, Err, MatchOption, MatchResult, codes, bytes_eq, cond}
use Rattle.fm_script.specs.Words.{CtxId, Status, BadRequest, PreVerdict, PostVerdict, World, Task, number_read, ◌>>=◌, Either}
use Rattle.fm_types.specs.Statuses.{number_of}
use Rattle.fm_callback_data.specs.declared.verdict.PreVerdict.TheVariants as verdict
use Rattle.fm_callback_data.specs.declared.verdict.PostVerdict.TheVariants as post
use Rattle.fm_world.specs.declared.step.Step.TheVariants as step
use Rattle.fm_script.specs.declared.task.Task.TheVariants as task
use Rattle.fm_script.specs.Ids.{instance_in, worker_in}
use Rattle.fm_script.specs.Tasks.{instance_id, worker_id, with_worker, held_ids, held_in, turn_ids, turn_in, event}

-- ---- verdicts

-- a script's completions carry the number 0, and no context that the line doesn't name
abbrev pub with_callback : PreVerdict
with_callback = verdict.WithCallback (record { number = 0; context = None })

abbrev pub synchronized : PreVerdict
synchronized = verdict.Synchronize (record { number = 0; context = None })

abbrev pub carrying : CtxId → PreVerdict
carrying c = verdict.WithCallback (record { number = 0; context = Some c })

-- a word that is the number of a status which a filter may give, any but Busy
abbrev pub IsStatus : List ℕ → PreVerdict → Type 0
IsStatus word (verdict.Complete status) = (number_read word ≡ Some (number_of status)) × (number_of status < 34)
IsStatus word _ = ⊥

abbrev pub IsNoStatus : List ℕ → Type 0
IsNoStatus word = (n : ℕ) → number_read word ≡ Some n → 34 ≤ n

abbrev pub bare_verdict : List ℕ → Result PreVerdict Status
bare_verdict word = cond (bytes_eq word (codes "with")) (Ok with_callback) (cond (bytes_eq word (codes "none")) (Ok verdict.NoCallback) (Err BadRequest))

abbrev pub ReadsComplete : List ℕ → Result PreVerdict Status → Type 0
ReadsComplete word result = MatchResult result (IsStatus word) (λ why. (why ≡ BadRequest) × IsNoStatus word)

-- a verdict by which an operation goes on
abbrev pub ReadsVerdict : List (List ℕ) → Result PreVerdict Status → Type 0
ReadsVerdict (word ∷ []) result = result ≡ bare_verdict word
ReadsVerdict (word ∷ status ∷ []) result =
    Either (bytes_eq word (codes "complete")) (ReadsComplete status result) (result ≡ Err BadRequest)
ReadsVerdict _ result = result ≡ Err BadRequest

-- a verdict that a preoperation alone may give, as it returns
abbrev pub own_verdict : List (List ℕ) → Option PreVerdict
own_verdict (word ∷ []) = cond (bytes_eq word (codes "pend")) (Some verdict.Pending) (cond (bytes_eq word (codes "sync")) (Some synchronized) None)
own_verdict _ = None

abbrev pub ReadsAnswer : List (List ℕ) → Result PreVerdict Status → Type 0
ReadsAnswer words result = MatchOption (own_verdict words) (ReadsVerdict words result) (λ answer. result ≡ Ok answer)

abbrev pub done_or_more : List ℕ → Result PostVerdict Status
done_or_more word = cond (bytes_eq word (codes "done")) (Ok post.Finished) (cond (bytes_eq word (codes "more")) (Ok post.MoreProcessing) (Err BadRequest))

-- ---- commands

-- ids that were read, and a verdict behind them
abbrev pub AnswersAs : {T : Type 0} → Result T Status → (Result PreVerdict Status → Type 0) → (T → PreVerdict → Result Task Status)
    → Result Task Status → Type 0
AnswersAs (Ok ids) Reads next result = (read : Result PreVerdict Status) × Reads read × (result ≡ (read >>= λ answer. next ids answer))
AnswersAs (Err status) Reads next result = result ≡ Err status

-- with a context that goes along, or without
abbrev pub sends_context : List (List ℕ) → Bool
sends_context (worker ∷ word ∷ context ∷ []) = bytes_eq word (codes "with")
sends_context _ = false

abbrev pub pre_with_read : List CtxId → List (List ℕ) → Result Task Status
pre_with_read contexts (worker ∷ word ∷ context ∷ []) =
    held_ids worker context >>= λ ids. held_in contexts ids.0 ids.1 >>= λ both. Ok (task.Pre both.0 (carrying both.1))
pre_with_read contexts _ = Err BadRequest

abbrev pub AnswersBare : List (List ℕ) → Result Task Status → Type 0
AnswersBare (worker ∷ words) result =
    AnswersAs (worker_id worker) (ReadsAnswer words) (λ k answer. worker_in k >>= λ by. Ok (task.Pre by answer)) result
AnswersBare _ result = result ≡ Err BadRequest

abbrev pub AnswersPre : List CtxId → List (List ℕ) → Result Task Status → Type 0
AnswersPre contexts words result = Either (sends_context words) (result ≡ pre_with_read contexts words) (AnswersBare words result)

abbrev pub Plans : World → List (List ℕ) → Result Task Status → Type 0
Plans w (instance ∷ words) result =
    AnswersAs (instance_id instance) (ReadsAnswer words) (λ i answer. instance_in w i >>= λ own. Ok (task.Plan own answer)) result
Plans w _ result = result ≡ Err BadRequest

abbrev pub post_read : List (List ℕ) → Result Task Status
post_read (worker ∷ word ∷ []) = with_worker worker (done_or_more word) >>= λ both. Ok (task.Post both.0 both.1)
post_read _ = Err BadRequest

-- a held operation goes on
abbrev pub Resumes : World → List (List ℕ) → Result Task Status → Type 0
Resumes w (worker ∷ operation ∷ words) result =
    AnswersAs (turn_ids worker operation) (ReadsVerdict words)
    (λ ids answer. turn_in w ids.0 ids.1 >>= λ turn. event (step.ResumePre turn.0 turn.1 answer)) result
Resumes w _ result = result ≡ Err BadRequest
