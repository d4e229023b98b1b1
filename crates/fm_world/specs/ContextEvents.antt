-- The events on contexts: the refusals of each, in their order, and what it makes of the World. A refusal changes nothing, but for a `set` with Keep
-- that hands out the context which is there. An event of a callback is refused first of all, with WrongStep, where the worker is in none.
use Rattle.std.specs.Prelude.{◌≡◌, ℕ, ◌+◌, ◌%◌, ◌^◌, ◌||◌, Bool, true, not, cond, nat_lt, List, [], ◌∷◌, Option, Some, None, is_some, is_none, option_map, option_and_then, slice_get, Result, Ok, Err, ⊤}
use Rattle.fm_world.specs.Words.{CtxId, FilterId, InstanceId, WorkerId, ContextKind, Status, updated, first_of, Answers, AnswersOrMemory, Instance}
use Rattle.fm_world.specs.Words.{StackWorld, is_detached, is_emptying_at, finished, Due, Object, holds, hand_of, open_of, grabbed, released}
use Rattle.fm_world.specs.Words.{reference_refusal, release_refusal, Context, ContextTable, context_at, link_at, owner_at, places}
use Rattle.fm_ctx.specs.declared.set_reply.SetMode.{SetMode}
use Rattle.fm_ctx.specs.declared.set_reply.SetReply.{SetReply}
use Rattle.fm_ctx.specs.Births.{IsNew, new_context, allocated, allocate_refusal}
use Rattle.fm_ctx.specs.Bodies.{body_at, read_refusal, write_refusal, rewritten, bump_refusal, bumped, raised}
use Rattle.fm_ctx.specs.Cleanup.{due_reply, after_take_due, cleaned}
use Rattle.fm_ctx.specs.Links.{holder, set_reply, set_after, get_refusal, delete_reply, delete_after, delete_refusal}
use Rattle.fm_types.specs.declared.status.Status.TheVariants as status
use Rattle.fm_ctx.specs.declared.owner.Owner.TheVariants as owner
use Rattle.fm_ctx.specs.declared.set_reply.SetReply.TheVariants as reply
use Rattle.fm_world.specs.declared.set_answer.SetAnswer.{SetAnswer}
use Rattle.fm_world.specs.declared.set_answer.SetAnswer.TheVariants as answer
use Rattle.fm_world.specs.declared.place.Place.{Place}
use Rattle.fm_world.specs.declared.place.Place.TheVariants as place
use Rattle.fm_world.specs.World.{World, carries}
use Rattle.fm_world.specs.Workers.{worker_at, put, is_idle}
use Rattle.fm_operations.specs.Initiators.{begun_by}
use Rattle.fm_world.specs.Events.{Unless}
use Rattle.fm_world.specs.Links.{is_there}
use Rattle.fm_world.specs.declared.file.FileObject.{FileObject}
use Rattle.fm_world.specs.Owners.{file_of, place_in, row_at, has_kind, owner_by, object_by, is_closing, filter_by}

-- the World with other contexts
abbrev pub with_contexts : World → ContextTable → World
with_contexts w t = record w { contexts = t }

-- the instance whose callback a worker is in, with its row, and the file that the callback's operation is on
pub record Callback : Type 0 where
  pub instance : InstanceId
  pub row : Instance
  pub file : Option FileObject

abbrev pub callback_in : StackWorld → Option FileObject → Option InstanceId → Option Callback
callback_in s file None = None
callback_in s file (Some i) = option_map (λ row. record { instance = i; row = row; file = file }) (row_at s i)

abbrev pub callback_of : World → WorkerId → Option Callback
callback_of w k = callback_in w.stack (file_of w.flow (worker_at w.workers k)) (place_in (worker_at w.workers k))

-- the event of a worker in a callback of an instance
abbrev pub InCallbackOf : {T : Type 0} → Result T Status → World → World → (Callback → Type 0) → Option Callback → Type 0
InCallbackOf result old new Event None = (result ≡ Err status.WrongStep) × (new ≡ old)
InCallbackOf result old new Event (Some at) = Event at

abbrev pub InCallback : {T : Type 0} → World → WorkerId → Result T Status → World → (Callback → Type 0) → Type 0
InCallback old k result new Event = InCallbackOf result old new Event (callback_of old k)

-- that refusal where the test holds, else another
abbrev pub before : Bool → Status → Option Status → Option Status
before test refusal others = cond test (Some refusal) others

-- ---- allocate

abbrev pub context_by : Callback → ContextKind → List ℕ → Context
context_by at kind body = new_context kind (owner_by at.row at.instance kind) at.row.volume body

abbrev pub allocate_refused : World → WorkerId → ContextKind → List ℕ → Callback → Option Status
allocate_refused w k kind body at = before (not (has_kind w.stack at.row kind)) status.NotRegistered (allocate_refusal w.contexts k.0 body)

unfoldable pub Allocates : World → WorkerId → ContextKind → List ℕ → Result CtxId Status → World → Type 0
Allocates old k kind body result new =
    InCallback old k result new (λ at.
    AnswersOrMemory (allocate_refused old k kind body at) result old new
    (λ (c : CtxId). IsNew old.contexts.slots c × (new ≡ with_contexts old (allocated old.contexts k.0 c (context_by at kind body)))))

-- ---- set

abbrev pub object_for : Callback → Option Context → Option Object
object_for at None = None
object_for at (Some x) = object_by at.row at.instance at.file x.kind

-- nothing more is set where the instance or its volume goes, nor on a handle that is closed or a stream that is torn down
abbrev pub is_past : World → Callback → Option Object → Bool
is_past w at o = is_closing w.stack at.row || not (is_there w.files o)

abbrev pub set_refused : World → WorkerId → CtxId → Callback → Option Status
set_refused w k c at =
    first_of ((not (holds (hand_of w.contexts.hands k.0) c), status.NotHeld)
    ∷ (is_some (link_at w.contexts.slots c), status.AlreadyLinked)
    ∷ (is_none (object_for at (context_at w.contexts.slots c)), status.NoObject)
    ∷ (is_past w at (object_for at (context_at w.contexts.slots c)), status.DeletingObject)
    ∷ [])

abbrev pub set_answer : SetReply → SetAnswer
set_answer (reply.Linked old) = answer.Linked old
set_answer (reply.AlreadyDefined old) = answer.AlreadyDefined old
set_answer reply.HandFull = answer.Refused status.HandFull

abbrev pub SetsOn : World → WorkerId → CtxId → SetMode → Bool → SetAnswer → World → Option Context → Option Object → Type 0
SetsOn old k c mode wants result new (Some x) (Some object) =
    (result ≡ set_answer (set_reply old.contexts k.0 mode wants (holder old.contexts.slots x.owner object)))
    × (new ≡ with_contexts old (set_after (carries old) old.contexts k.0 c object mode wants (holder old.contexts.slots x.owner object)))
SetsOn old k c mode wants result new _ _ = ⊥

abbrev pub SetsUnless : World → WorkerId → CtxId → SetMode → Bool → SetAnswer → World → Callback → Option Status → Type 0
SetsUnless old k c mode wants result new at (Some refusal) = (result ≡ answer.Refused refusal) × (new ≡ old)
SetsUnless old k c mode wants result new at None =
    SetsOn old k c mode wants result new (context_at old.contexts.slots c) (object_for at (context_at old.contexts.slots c))

abbrev pub SetsIn : World → WorkerId → CtxId → SetMode → Bool → SetAnswer → World → Option Callback → Type 0
SetsIn old k c mode wants result new None = (result ≡ answer.Refused status.WrongStep) × (new ≡ old)
SetsIn old k c mode wants result new (Some at) = SetsUnless old k c mode wants result new at (set_refused old k c at)

unfoldable pub Sets : World → WorkerId → CtxId → SetMode → Bool → SetAnswer → World → Type 0
Sets old k c mode wants result new = SetsIn old k c mode wants result new (callback_of old k)

-- ---- get and delete

-- the context of that kind that is set on the callback's object
abbrev pub there_at : World → ContextKind → Callback → Option CtxId
there_at w kind at = option_and_then (holder w.contexts.slots (owner_by at.row at.instance kind)) (object_by at.row at.instance at.file kind)

abbrev pub object_refused : World → ContextKind → Callback → Option Status → Option Status
object_refused w kind at others =
    before (not (has_kind w.stack at.row kind)) status.NotRegistered (before (is_none (object_by at.row at.instance at.file kind)) status.NoObject others)

-- nothing is got from a handle that is closed, nor from a stream that is torn down
abbrev pub get_refused : World → WorkerId → ContextKind → Callback → Option Status
get_refused w k kind at =
    object_refused w kind at
    (before (not (is_there w.files (object_by at.row at.instance at.file kind))) status.DeletingObject (get_refusal w.contexts k.0 (there_at w kind at)))

unfoldable pub Gets : World → WorkerId → ContextKind → Result CtxId Status → World → Type 0
Gets old k kind result new =
    InCallback old k result new (λ at.
    Answers (get_refused old k kind at) result old new
    (λ (c : CtxId). (there_at old kind at ≡ Some c) × (new ≡ with_contexts old (grabbed old.contexts k.0 c))))

unfoldable pub Deletes : World → WorkerId → ContextKind → Bool → Result (Option CtxId) Status → World → Type 0
Deletes old k kind wants result new =
    InCallback old k result new (λ at.
    Answers (object_refused old kind at (delete_refusal old.contexts k.0 wants (there_at old kind at))) result old new
    (λ (c : Option CtxId). (c ≡ delete_reply wants (there_at old kind at))
    × (new ≡ with_contexts old (delete_after (carries old) old.contexts k.0 wants (there_at old kind at)))))

-- ---- references

unfoldable pub References : World → WorkerId → CtxId → Result (Unit {0}) Status → World → Type 0
References old k c result new =
    InCallback old k result new (λ at.
    Answers (reference_refusal old.contexts k.0 c) result old new (λ _. new ≡ with_contexts old (grabbed old.contexts k.0 c)))

unfoldable pub Releases : World → WorkerId → CtxId → Result (Unit {0}) Status → World → Type 0
Releases old k c result new =
    InCallback old k result new (λ at.
    Answers (release_refusal old.contexts k.0 c) result old new (λ _. new ≡ with_contexts old (released (carries old) old.contexts k.0 c)))

-- ---- bodies

unfoldable pub ReadsBody : World → WorkerId → CtxId → Result (List ℕ) Status → World → Type 0
ReadsBody old k c result new =
    InCallback old k result new (λ at.
    AnswersOrMemory (read_refusal old.contexts k.0 c) result old new (λ (body : List ℕ). (body ≡ body_at old.contexts.slots c) × (new ≡ old)))

unfoldable pub WritesBody : World → WorkerId → CtxId → List ℕ → Result (Unit {0}) Status → World → Type 0
WritesBody old k c bytes result new =
    InCallback old k result new (λ at.
    Answers (write_refusal old.contexts k.0 c bytes) result old new (λ _. new ≡ with_contexts old (rewritten old.contexts c bytes)))

unfoldable pub Bumps : World → WorkerId → CtxId → ℕ → ℕ → Result ℕ Status → World → Type 0
Bumps old k c at by result new =
    InCallback old k result new (λ _.
    Answers (bump_refusal old.contexts k.0 c at) result old new
    (λ (n : ℕ). (n ≡ raised at by (body_at old.contexts.slots c)) × (new ≡ with_contexts old (bumped old.contexts c at by))))

-- ---- cleanup

abbrev pub after_due : List Place → WorkerId → Option CtxId → List Place
after_due workers k None = workers
after_due workers k (Some c) = put workers k (place.Cleanup c)

-- by an idle worker, which then cleans up the context that is due longest
unfoldable pub TakesDue : World → WorkerId → Result (Option Due) Status → World → Type 0
TakesDue old k result new =
    Unless status.WrongStep (is_idle (worker_at old.workers k)) result old new
    ((result ≡ Ok (due_reply old.contexts))
    × (new ≡ record old { workers = after_due old.workers k (slice_get old.contexts.due 0); contexts = after_take_due old.contexts k.0 }))

-- the filter's total grows by what its cleanup returned
abbrev pub totalled_for : Option FilterId → ℕ → List ℕ → List ℕ
totalled_for None number totals = totals
totalled_for (Some f) number totals = updated (λ n. (n + number) % 2 ^ 64) totals f.0

abbrev pub filter_of : StackWorld → Option Context → Option FilterId
filter_of s None = None
filter_of s (Some x) = filter_by s x.owner

abbrev pub CleansAt : World → WorkerId → ℕ → Result (Unit {0}) Status → World → Option Place → Type 0
CleansAt old k number result new (Some (place.Cleanup c)) =
    (result ≡ Ok tt)
    × (new ≡ record old {
      workers = put old.workers k place.Idle;
      contexts = cleaned old.contexts k.0 c;
      totals = totalled_for (filter_of old.stack (context_at old.contexts.slots c)) number old.totals;
    })
CleansAt old k number result new _ = (result ≡ Err status.WrongStep) × (new ≡ old)

unfoldable pub Cleans : World → WorkerId → ℕ → Result (Unit {0}) Status → World → Type 0
Cleans old k number result new = CleansAt old k number result new (worker_at old.workers k)

-- ---- the end of an instance

abbrev pub is_gone_at : Option Instance → Bool
is_gone_at None = true
is_gone_at (Some row) = is_detached row.phase

-- what its end waits for: its contexts that aren't cleaned, and operations that its filter asked for itself and whose answers weren't handed out
abbrev pub left_over : World → InstanceId → ℕ
left_over w i = open_of w.contexts.slots (owner.Instance i) + begun_by i.0 w.flow

-- Busy says how many those are
abbrev pub finish_refused : World → InstanceId → Option Status
finish_refused w i =
    first_of ((is_gone_at (row_at w.stack i), status.NoInstance)
    ∷ (not (is_emptying_at (row_at w.stack i)), status.WrongStep)
    ∷ (nat_lt 0 (left_over w i), status.Busy (left_over w i))
    ∷ [])

unfoldable pub Finishes : World → InstanceId → Result (Unit {0}) Status → World → Type 0
Finishes old i result new = Answers (finish_refused old i) result old new (λ _. new ≡ record old { stack = finished old.stack i })

-- each context that an instance owns and that isn't cleaned waits for its cleanup: it is due, or one worker cleans it up
abbrev pub OwnsOnlyWaiting : World → InstanceId → Type 0
OwnsOnlyWaiting w i = (c : CtxId) → owner_at w.contexts.slots c ≡ Some (owner.Instance i) → places w.contexts.due w.contexts.cleaning c ≡ 1

-- so it is where its end is refused with Busy
abbrev pub WaitsIfBusy : World → InstanceId → Result (Unit {0}) Status → Type 0
WaitsIfBusy w i (Err (status.Busy n)) = OwnsOnlyWaiting w i
WaitsIfBusy w i (Err other) = ⊤
WaitsIfBusy w i (Ok done) = ⊤
