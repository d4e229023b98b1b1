-- What the words of a line stand for, and by which status a line is refused that stands for nothing.
use Rattle.std.specs.Prelude.{◌≡◌, ℕ, Bool, true, false, List, [], ◌∷◌, Option, Some, None, Result, Ok, Err, MatchResult, codes, bytes_eq, cond, find}
use Rattle.fm_script.specs.Words.{CtxId, OpId, WorkerId, Status, BadRequest, World, Keyword, Task, number_read, ◌>>=◌}
use Rattle.fm_types.specs.declared.operation.CreateMode.{CreateMode}
use Rattle.fm_types.specs.declared.operation.CreateMode.TheVariants as create
use Rattle.fm_types.specs.declared.registration.Registration.{Registration}
use Rattle.fm_types.specs.declared.status.Status.TheVariants.{BadAltitude, BadName, BadPath}
use Rattle.fm_types.specs.Paths.{IsPath}
use Rattle.fm_types.specs.Names.{IsName}
use Rattle.fm_altitude.specs.Grammar.{IsAltitude, canonical}
use Rattle.fm_callback_data.specs.declared.params.Params.{Params}
use Rattle.fm_callback_data.specs.declared.params.Params.TheVariants as params
use Rattle.fm_callback_data.specs.declared.request.Request.TheVariants as request
use Rattle.fm_world.specs.declared.begins_from.BeginsFrom.{BeginsFrom}
use Rattle.fm_world.specs.declared.begins_from.BeginsFrom.TheVariants as begins
use Rattle.fm_world.specs.declared.step.Step.TheVariants as step
use Rattle.fm_script.specs.declared.keyword.Keyword.TheVariants as keyword
use Rattle.fm_script.specs.declared.task.Task.TheVariants as task
use Rattle.fm_script.specs.Ids.{filter_in, instance_in, volume_in, operation_in, worker_in}
use Rattle.fm_script.specs.Tasks.{instance_id, volume_id, worker_id, numbers_read, or_bad, place_ids, turn_ids, turn_in, one_id, only_instance, only_volume, only_worker, answered_read, event}
use Rattle.fm_script.specs.ContextCommands.{context_read, allocate_read, write_body_read}
use Rattle.fm_script.specs.FileCommands.{file_read, length_asked, major_read, write_read}
use Rattle.fm_script.specs.TeardownCommands.{teardown_read}
use Rattle.fm_script.specs.VerdictCommands.{AnswersPre, Plans, Resumes, post_read}

-- ---- the words that lines begin with

abbrev pub spelling : Keyword → List ℕ
spelling keyword.Load = codes "load"
spelling keyword.Mount = codes "mount"
spelling keyword.Attach = codes "attach"
spelling keyword.List = codes "list"
spelling keyword.Next = codes "next"
spelling keyword.Pre = codes "pre"
spelling keyword.Plan = codes "plan"
spelling keyword.Base = codes "base"
spelling keyword.Post = codes "post"
spelling keyword.Go = codes "go"
spelling keyword.Collect = codes "collect"
spelling keyword.Phase = codes "phase"
spelling keyword.Setup = codes "setup"
spelling keyword.SetDone = codes "setdone"
spelling keyword.Finish = codes "finish"
spelling keyword.Create = codes "create"
spelling keyword.Alloc = codes "alloc"
spelling keyword.Set = codes "set"
spelling keyword.Get = codes "get"
spelling keyword.Del = codes "del"
spelling keyword.Ref = codes "ref"
spelling keyword.Rel = codes "rel"
spelling keyword.Body = codes "body"
spelling keyword.WBody = codes "wbody"
spelling keyword.Bump = codes "bump"
spelling keyword.Due = codes "due"
spelling keyword.Cleaned = codes "cleaned"
spelling keyword.Count = codes "count"
spelling keyword.Leaks = codes "leaks"
spelling keyword.Read = codes "read"
spelling keyword.Write = codes "write"
spelling keyword.Size = codes "size"
spelling keyword.SetSize = codes "setsize"
spelling keyword.Flush = codes "flush"
spelling keyword.Delete = codes "delete"
spelling keyword.Cleanup = codes "cleanup"
spelling keyword.Close = codes "close"
spelling keyword.Fail = codes "fail"
spelling keyword.Failures = codes "failures"
spelling keyword.Resume = codes "resume"
spelling keyword.ResPost = codes "respost"
spelling keyword.Query = codes "query"
spelling keyword.Queried = codes "queried"
spelling keyword.Start = codes "start"
spelling keyword.Started = codes "started"
spelling keyword.Complete = codes "complete"
spelling keyword.Completed = codes "completed"
spelling keyword.Enter = codes "enter"
spelling keyword.Left = codes "left"
spelling keyword.Unload = codes "unload"
spelling keyword.Unloaded = codes "unloaded"
spelling keyword.EmptyF = codes "emptyf"
spelling keyword.FinishF = codes "finishf"
spelling keyword.Flight = codes "flight"
spelling keyword.Drain = codes "drain"
spelling keyword.Drained = codes "drained"
spelling keyword.Dismount = codes "dismount"
spelling keyword.Drop = codes "drop"
spelling keyword.EmptyV = codes "emptyv"
spelling keyword.FinishV = codes "finishv"
spelling keyword.QuerySize = codes "querysize"
spelling keyword.SetDelete = codes "setdelete"
spelling keyword.Restore = codes "restore"
spelling keyword.Other = codes "other"
spelling keyword.OtherV = codes "otherv"
spelling keyword.ChangeHeld = codes "change_held"
spelling keyword.Below = codes "below"
spelling keyword.AtBase = codes "atbase"
spelling keyword.AtTop = codes "attop"

abbrev pub all_keywords : List Keyword
all_keywords =
    keyword.Load ∷ keyword.Mount ∷ keyword.Attach ∷ keyword.List ∷ keyword.Next ∷ keyword.Pre ∷ keyword.Plan ∷ keyword.Base ∷ keyword.Post ∷
    keyword.Go ∷ keyword.Collect ∷ keyword.Phase ∷ keyword.Setup ∷ keyword.SetDone ∷ keyword.Finish ∷ keyword.Create ∷ keyword.Alloc ∷
    keyword.Set ∷ keyword.Get ∷ keyword.Del ∷ keyword.Ref ∷ keyword.Rel ∷ keyword.Body ∷ keyword.WBody ∷ keyword.Bump ∷ keyword.Due ∷
    keyword.Cleaned ∷ keyword.Count ∷ keyword.Leaks ∷ keyword.Read ∷ keyword.Write ∷ keyword.Size ∷ keyword.SetSize ∷ keyword.Flush ∷
    keyword.Delete ∷ keyword.Cleanup ∷ keyword.Close ∷ keyword.Fail ∷ keyword.Failures ∷ keyword.Resume ∷ keyword.ResPost ∷
    keyword.Query ∷ keyword.Queried ∷ keyword.Start ∷ keyword.Started ∷ keyword.Complete ∷ keyword.Completed ∷ keyword.Enter ∷ keyword.Left ∷ keyword.Unload ∷
    keyword.Unloaded ∷ keyword.EmptyF ∷ keyword.FinishF ∷ keyword.Flight ∷ keyword.Drain ∷ keyword.Drained ∷
    keyword.Dismount ∷ keyword.Drop ∷ keyword.EmptyV ∷ keyword.FinishV ∷ keyword.QuerySize ∷ keyword.SetDelete ∷ keyword.Restore ∷
    keyword.Other ∷ keyword.OtherV ∷ keyword.ChangeHeld ∷ keyword.Below ∷ keyword.AtBase ∷ keyword.AtTop ∷ []

-- the keyword that a word is
unfoldable pub keyword_read : List ℕ → Option Keyword
keyword_read word = find (λ k. bytes_eq (spelling k) word) all_keywords

-- ---- names

-- a task with a name, if it is one
abbrev pub IsNamed : List ℕ → Task → Result Task Status → Type 0
IsNamed name t result = MatchResult result (λ read. IsName name × (read ≡ t)) (λ status. (IsName name → ⊥) × (status ≡ BadName))

-- ---- load, mount

-- all operations, all kinds of contexts: each has its bit
abbrev pub with_masks : ℕ → ℕ → Registration
with_masks pre post = record { pre = record { 0 = pre }; post = record { 0 = post }; contexts = record { 0 = 31 }; query = true; unload = true }

abbrev pub bare : Registration
bare = record { pre = record { 0 = 576460752303423487 }; post = record { 0 = 576460752303423487 }; contexts = record { 0 = 0 }; query = false; unload = false }

abbrev pub option_read : List ℕ → Result Registration Status
option_read option =
    cond (bytes_eq option (codes "only-pre")) (Ok (with_masks 576460752303423487 0)) (cond (bytes_eq option (codes "only-post")) (Ok (with_masks 0 576460752303423487))
    (cond (bytes_eq option (codes "bare")) (Ok bare) (Err BadRequest)))

abbrev pub registration_read : List (List ℕ) → Result Registration Status
registration_read [] = Ok (with_masks 576460752303423487 576460752303423487)
registration_read (option ∷ []) = option_read option
registration_read _ = Err BadRequest

abbrev pub LoadsWith : List ℕ → Result Registration Status → Result Task Status → Type 0
LoadsWith name (Ok registration) result = IsNamed name (task.Event (step.Register name registration)) result
LoadsWith name (Err status) result = result ≡ Err status

abbrev pub Loads : List (List ℕ) → Result Task Status → Type 0
Loads (name ∷ options) result = LoadsWith name (registration_read options) result
Loads _ result = result ≡ Err BadRequest

abbrev pub Mounts : List (List ℕ) → Result Task Status → Type 0
Mounts (name ∷ []) result = IsNamed name (task.Event (step.Mount name)) result
Mounts _ result = result ≡ Err BadRequest

-- ---- attach, setup

-- a name and an altitude: the name is read first, and the altitude known by its canonical text
abbrev pub IsRefusedPlace : List ℕ → List ℕ → Status → Type 0
IsRefusedPlace name altitude BadName = IsName name → ⊥
IsRefusedPlace name altitude BadAltitude = IsName name × (IsAltitude altitude → ⊥)
IsRefusedPlace name altitude _ = ⊥

abbrev pub ReadsPlace : List ℕ → List ℕ → Result (List ℕ × List ℕ) Status → Type 0
ReadsPlace name altitude read =
    MatchResult read (λ place. IsName name × IsAltitude altitude × (place ≡ (name, canonical altitude))) (IsRefusedPlace name altitude)

-- numbers that were read, before a place is
abbrev pub Placed : {T : Type 0} → Result T Status → List ℕ → List ℕ → (T → List ℕ × List ℕ → Result Task Status) → Result Task Status → Type 0
Placed (Ok ids) name altitude next result =
    (read : Result (List ℕ × List ℕ) Status) × ReadsPlace name altitude read × (result ≡ (read >>= λ place. next ids place))
Placed (Err status) name altitude next result = result ≡ Err status

unfoldable pub setup_ids : List ℕ → List ℕ → List ℕ → Result (ℕ × ℕ × ℕ) Status
setup_ids worker filter volume = worker_id worker >>= λ k. place_ids filter volume >>= λ ids. Ok (k, ids.0, ids.1)

unfoldable pub attach_at : World → ℕ → ℕ → List ℕ → List ℕ → Result Task Status
attach_at w f v name altitude = filter_in w f >>= λ own. volume_in w v >>= λ at. Ok (task.Attach own at name altitude)

-- in the setup callback of a worker
unfoldable pub setup_at : World → ℕ × ℕ × ℕ → List ℕ → List ℕ → Result Task Status
setup_at w ids name altitude =
    filter_in w ids.1 >>= λ own. volume_in w ids.2 >>= λ at. worker_in ids.0 >>= λ by. event (step.Attach by own at name altitude)

abbrev pub Attaches : World → List (List ℕ) → Result Task Status → Type 0
Attaches w (f ∷ v ∷ name ∷ altitude ∷ []) result =
    Placed (place_ids f v) name altitude (λ ids place. attach_at w ids.0 ids.1 place.0 place.1) result
Attaches w _ result = result ≡ Err BadRequest

-- the same with a worker before them, which enters the setup callback
abbrev pub SetsUp : World → List (List ℕ) → Result Task Status → Type 0
SetsUp w (k ∷ f ∷ v ∷ name ∷ altitude ∷ []) result =
    Placed (setup_ids k f v) name altitude (λ ids place. setup_at w ids place.0 place.1) result
SetsUp w _ result = result ≡ Err BadRequest

-- ---- create

abbrev pub create_mode_read : List ℕ → Result CreateMode Status
create_mode_read word =
    cond (bytes_eq word (codes "existing")) (Ok create.Existing)
    (cond (bytes_eq word (codes "new")) (Ok create.New) (cond (bytes_eq word (codes "always")) (Ok create.Always) (Err BadRequest)))

abbrev pub create_ids : List ℕ → List ℕ → Result (ℕ × CreateMode) Status
create_ids volume mode = volume_id volume >>= λ v. create_mode_read mode >>= λ m. Ok (v, m)

abbrev pub create_at : World → ℕ × CreateMode → List ℕ → Result Task Status
create_at w ids path = volume_in w ids.0 >>= λ at. event (step.Begin (request.Create at path ids.1))

-- a volume, a mode and a path: the first two are read first
abbrev pub ReadsCreateAs : Result (ℕ × CreateMode) Status → List ℕ → Result ((ℕ × CreateMode) × List ℕ) Status → Type 0
ReadsCreateAs (Ok ids) path read = MatchResult read (λ both. IsPath path × (both ≡ (ids, path))) (λ status. (IsPath path → ⊥) × (status ≡ BadPath))
ReadsCreateAs (Err status) path read = read ≡ Err status

abbrev pub ReadsCreate : List (List ℕ) → Result ((ℕ × CreateMode) × List ℕ) Status → Type 0
ReadsCreate (v ∷ path ∷ mode ∷ []) read = ReadsCreateAs (create_ids v mode) path read
ReadsCreate _ read = read ≡ Err BadRequest

abbrev pub Creates : World → List (List ℕ) → Result Task Status → Type 0
Creates w words result =
    (read : Result ((ℕ × CreateMode) × List ℕ) Status) × ReadsCreate words read × (result ≡ (read >>= λ both. create_at w both.0 both.1))

-- ---- the other commands

-- a worker and an operation, as the only words
abbrev pub turn_read : World → List (List ℕ) → Result (WorkerId × OpId) Status
turn_read w (worker ∷ operation ∷ []) = turn_ids worker operation >>= λ ids. turn_in w ids.0 ids.1
turn_read w _ = Err BadRequest

abbrev pub collect_read : World → List (List ℕ) → Result Task Status
collect_read w words = one_id 111 words >>= λ o. operation_in w o >>= λ own. event (step.Collect own)

abbrev pub list_read : World → List (List ℕ) → Result Task Status
list_read w words = only_volume w words >>= λ at. event (step.Begin (request.List at))

abbrev pub is_of_contexts : Keyword → Bool
is_of_contexts keyword.Set = true
is_of_contexts keyword.Get = true
is_of_contexts keyword.Del = true
is_of_contexts keyword.Ref = true
is_of_contexts keyword.Rel = true
is_of_contexts keyword.Body = true
is_of_contexts keyword.Bump = true
is_of_contexts keyword.Due = true
is_of_contexts keyword.Cleaned = true
is_of_contexts keyword.Count = true
is_of_contexts keyword.Leaks = true
is_of_contexts _ = false

abbrev pub is_of_teardowns : Keyword → Bool
is_of_teardowns keyword.Query = true
is_of_teardowns keyword.Queried = true
is_of_teardowns keyword.Start = true
is_of_teardowns keyword.Started = true
is_of_teardowns keyword.Complete = true
is_of_teardowns keyword.Completed = true
is_of_teardowns keyword.Enter = true
is_of_teardowns keyword.Left = true
is_of_teardowns keyword.Finish = true
is_of_teardowns keyword.Unload = true
is_of_teardowns keyword.Unloaded = true
is_of_teardowns keyword.EmptyF = true
is_of_teardowns keyword.FinishF = true
is_of_teardowns keyword.Flight = true
is_of_teardowns keyword.Drain = true
is_of_teardowns keyword.Drained = true
is_of_teardowns keyword.Dismount = true
is_of_teardowns keyword.Drop = true
is_of_teardowns keyword.EmptyV = true
is_of_teardowns keyword.FinishV = true
is_of_teardowns _ = false

-- the commands of a worker's turn, and a phase
abbrev pub setup_done_read : List (List ℕ) → Result Task Status
setup_done_read words = answered_read words >>= λ both. event (step.SetupDone both.0 both.1)

abbrev pub next_read : World → List (List ℕ) → Result Task Status
next_read w words = turn_read w words >>= λ turn. Ok (task.Next turn.0 turn.1)

abbrev pub go_read : World → List (List ℕ) → Result Task Status
go_read w words = turn_read w words >>= λ turn. Ok (task.Go turn.0 turn.1)

abbrev pub base_read : List (List ℕ) → Result Task Status
base_read words = only_worker words >>= λ by. Ok (task.Base by)

abbrev pub resume_post_read : World → List (List ℕ) → Result Task Status
resume_post_read w words = turn_read w words >>= λ turn. event (step.ResumePost turn.0 turn.1)

abbrev pub phase_read : World → List (List ℕ) → Result Task Status
phase_read w words = only_instance w words >>= λ own. Ok (task.Phase own)

-- ---- a filter's own requests

-- a request but a create and a write
abbrev pub asked_by : World → Option Keyword → List (List ℕ) → Result Task Status
asked_by w None words = Err BadRequest
asked_by w (Some keyword.List) words = list_read w words
asked_by w (Some other) words = file_read w other words

abbrev pub request_read : World → List (List ℕ) → Result Task Status
request_read w [] = Err BadRequest
request_read w (word ∷ words) = asked_by w (keyword_read word) words

-- it begins there, if it is one
abbrev pub begun_from : BeginsFrom → Task → Result Task Status
begun_from from (task.Event (step.Begin what)) = event (step.BeginFrom from what)
begun_from from _ = Err BadRequest

-- below an instance
abbrev pub below_read : World → List (List ℕ) → Result Task Status
below_read w [] = Err BadRequest
below_read w (instance ∷ words) =
    instance_id instance >>= λ i. request_read w words >>= λ asked. instance_in w i >>= λ own. begun_from (begins.Below own) asked

-- at the base, for an instance if one is named, else for the file system
abbrev pub based_read : World → List ℕ → List (List ℕ) → Result ℕ Status → Result Task Status
based_read w first words (Ok i) = request_read w words >>= λ asked. instance_in w i >>= λ own. begun_from (begins.Base own) asked
based_read w first words (Err why) = request_read w (first ∷ words) >>= begun_from begins.FileSystem

abbrev pub at_base_read : World → List (List ℕ) → Result Task Status
at_base_read w [] = Err BadRequest
at_base_read w (first ∷ words) = based_read w first words (instance_id first)

-- at the top, for the cache or memory manager
abbrev pub at_top_read : World → List (List ℕ) → Result Task Status
at_top_read w words = request_read w words >>= begun_from begins.Top

-- ---- other parameters for an operation that is held

-- those of a read, of a new size, and of a major function without a kind of its own
abbrev pub span_read : List (List ℕ) → Result Params Status
span_read (offset ∷ len ∷ []) = numbers_read offset len >>= λ n. Ok (params.Read n.0 (length_asked n.1))
span_read _ = Err BadRequest

abbrev pub size_read : List (List ℕ) → Result Params Status
size_read (size ∷ []) = or_bad (number_read size) >>= λ n. Ok (params.SetSize n)
size_read _ = Err BadRequest

abbrev pub other_params_read : List (List ℕ) → Result Params Status
other_params_read (code ∷ word ∷ []) = major_read code word >>= λ both. Ok (params.Other both.0 both.1)
other_params_read _ = Err BadRequest

abbrev pub params_read : Option Keyword → List (List ℕ) → Result Params Status
params_read (Some keyword.Read) words = span_read words
params_read (Some keyword.SetSize) words = size_read words
params_read (Some keyword.Other) words = other_params_read words
params_read _ words = Err BadRequest

abbrev pub change_held_read : World → List (List ℕ) → Result Task Status
change_held_read w (worker ∷ operation ∷ word ∷ words) =
    turn_ids worker operation >>= λ ids. params_read (keyword_read word) words >>= λ own. turn_in w ids.0 ids.1
    >>= λ turn. event (step.ChangeHeld turn.0 turn.1 own)
change_held_read w _ = Err BadRequest

-- the command whose path takes memory as it is read
abbrev pub is_create : Keyword → Bool
is_create keyword.Create = true
is_create _ = false

-- the words behind any other keyword
abbrev pub ReadsAs : World → List CtxId → Keyword → List (List ℕ) → Result Task Status → Type 0
ReadsAs w contexts keyword.Load words result = Loads words result
ReadsAs w contexts keyword.Mount words result = Mounts words result
ReadsAs w contexts keyword.Attach words result = Attaches w words result
ReadsAs w contexts keyword.Setup words result = SetsUp w words result
ReadsAs w contexts keyword.SetDone words result = result ≡ setup_done_read words
ReadsAs w contexts keyword.List words result = result ≡ list_read w words
ReadsAs w contexts keyword.Next words result = result ≡ next_read w words
ReadsAs w contexts keyword.Go words result = result ≡ go_read w words
ReadsAs w contexts keyword.Pre words result = AnswersPre contexts words result
ReadsAs w contexts keyword.Base words result = result ≡ base_read words
ReadsAs w contexts keyword.Post words result = result ≡ post_read words
ReadsAs w contexts keyword.Plan words result = Plans w words result
ReadsAs w contexts keyword.Resume words result = Resumes w words result
ReadsAs w contexts keyword.ResPost words result = result ≡ resume_post_read w words
ReadsAs w contexts keyword.Collect words result = result ≡ collect_read w words
ReadsAs w contexts keyword.Phase words result = result ≡ phase_read w words
ReadsAs w contexts keyword.Below words result = result ≡ below_read w words
ReadsAs w contexts keyword.AtBase words result = result ≡ at_base_read w words
ReadsAs w contexts keyword.AtTop words result = result ≡ at_top_read w words
ReadsAs w contexts keyword.ChangeHeld words result = result ≡ change_held_read w words
ReadsAs w contexts other words result =
    result ≡ cond (is_of_contexts other) (context_read contexts other words)
    (cond (is_of_teardowns other) (teardown_read w other words) (file_read w other words))

-- the commands whose third and last word behind the keyword is bytes
abbrev pub takes_bytes : Keyword → Bool
takes_bytes keyword.Alloc = true
takes_bytes keyword.WBody = true
takes_bytes keyword.Write = true
takes_bytes _ = false

abbrev pub with_bytes_read : World → List CtxId → Keyword → List (List ℕ) → List ℕ → Result Task Status
with_bytes_read w contexts keyword.Alloc words bytes = allocate_read words bytes
with_bytes_read w contexts keyword.WBody words bytes = write_body_read contexts words bytes
with_bytes_read w contexts _ words bytes = write_read w words bytes
