-- What each step makes of an operation.
use Rattle.std.specs.Prelude.{◌≡◌, ℕ, ◌<◌, ◌==◌, ⊤, Bool, true, false, cond, not, nat_le, nat_lt, ◌&&◌, ◌||◌, List, [], ◌∷◌, ◌++◌, length, take, map, Option, Some, None, Result, Ok, Err, slice_get}
use Rattle.fm_types.specs.declared.ids.InstanceId.{InstanceId}
use Rattle.fm_types.specs.declared.ids.HandleId.{HandleId}
use Rattle.fm_types.specs.declared.ids.WorkerId.{WorkerId}
use Rattle.fm_types.specs.declared.status.Status.{Status}
use Rattle.fm_types.specs.declared.status.Status.TheVariants.{WrongStep}
use Rattle.fm_types.specs.declared.operation.Operation.{Operation}
use Rattle.fm_types.specs.declared.operation.Operation.TheVariants as kind
use Rattle.fm_callback_data.specs.Calls.{BaseCall}
use Rattle.fm_callback_data.specs.declared.params.Params.{Params}
use Rattle.fm_callback_data.specs.declared.answer.Answer.{Answer}
use Rattle.fm_callback_data.specs.declared.verdict.PostVerdict.{PostVerdict}
use Rattle.fm_callback_data.specs.declared.verdict.PostVerdict.TheVariants as verdict
use Rattle.fm_callback_data.specs.Params.{call_fits, fit}
use Rattle.fm_callback_data.specs.Data.{Data, current_of, fresh_data, answered_data, data_fits}
use Rattle.fm_operations.specs.declared.stage.Stage.{Stage}
use Rattle.fm_operations.specs.declared.stage.Stage.TheVariants.{Descending, PreRunning, PreHeld, InBase, Ascending, PostRunning, PostHeld, InDrain}
use Rattle.fm_operations.specs.declared.entry.PreState.{PreState}
use Rattle.fm_operations.specs.declared.entry.PreState.TheVariants as pre
use Rattle.fm_operations.specs.declared.entry.PostState.{PostState}
use Rattle.fm_operations.specs.declared.entry.PostState.TheVariants as post
use Rattle.fm_operations.specs.declared.entry.Ask.{Ask}
use Rattle.fm_operations.specs.declared.entry.Entry.{Entry}
use Rattle.fm_operations.specs.declared.entry.Entry.TheVariants.{Pre, Base, Post, Drain}
use Rattle.fm_operations.specs.declared.action.Below.{Below}
use Rattle.fm_operations.specs.declared.action.Below.TheVariants as below
use Rattle.fm_operations.specs.declared.action.FlowAction.{FlowAction}
use Rattle.fm_operations.specs.declared.action.FlowAction.TheVariants as action
use Rattle.fm_operations.specs.Entries.{times, visited, owed, last_place, settle_pre, settle_post, settle_drain}
use Rattle.fm_operations.specs.Answered.{bare_answer, base_counted, handle_given}
use Rattle.fm_operations.specs.Record.{FlowRecord}

-- what `next` answers, and the operation after it
pub record Turned : Type 0 where
  pub reply : Result FlowAction Status
  pub after : FlowRecord

abbrev pub turn : Result FlowAction Status → FlowRecord → Turned
turn reply after = record { reply = reply; after = after }

-- where a preoperation leads, and a postoperation
abbrev pub pre_leads : PreState → Stage
pre_leads pre.Running = PreRunning
pre_leads pre.Held = PreHeld
pre_leads (pre.Asked completion) = Descending
pre_leads (pre.Synchronized completion) = Descending
pre_leads pre.Passed = Descending
pre_leads (pre.Completed status) = Ascending

abbrev pub post_leads : PostState → Stage
post_leads post.Running = PostRunning
post_leads post.Held = PostHeld
post_leads post.Finished = Ascending

-- one more entry
abbrev pub with_entry : Entry → Stage → FlowRecord → FlowRecord
with_entry entry stage r = record r { stage = stage; entries = r.entries ++ entry ∷ [] }

-- ---- down

-- a visit of an instance on the way down
abbrev pub pre_entry : WorkerId → InstanceId → PreState → FlowRecord → Entry
pre_entry worker i state r = Pre (record { instance = i; worker = worker; state = state; place = length r.kept })

abbrev pub with_visit : WorkerId → InstanceId → PreState → FlowRecord → FlowRecord
with_visit worker i state r = with_entry (pre_entry worker i state r) (pre_leads state) r

-- an instance whose filter has no preoperation callback asks for its postoperation with number 0
abbrev pub bare_ask : PreState
bare_ask = pre.Asked (record { number = 0; context = None })

abbrev pub call_pre : WorkerId → InstanceId → FlowRecord → Option Params → Turned
call_pre worker i r (Some params) = turn (Ok (action.Pre i (fresh_data params))) (record (with_visit worker i pre.Running r) { params = None })
call_pre worker i r None = turn (Err WrongStep) r

-- what the base is asked: on the operation's volume, of the file that it is on
abbrev pub call_of : FlowRecord → Params → BaseCall
call_of r params = record { volume = r.volume; path = r.path; params = params }

abbrev pub call_base : FlowRecord → Option Params → Turned
call_base r (Some params) = turn (Ok (action.Base (call_of r params))) (record r { stage = InBase; params = None })
call_base r None = turn (Err WrongStep) r

abbrev pub with_base : Answer → FlowRecord → FlowRecord
with_base answer r = with_entry (Base answer.status answer.information) Ascending (record r { answer = answer })

abbrev pub descend : WorkerId → Below → FlowRecord → Turned
descend worker (below.Instance i is_called) r = cond is_called (call_pre worker i r r.params) (turn (Ok action.Moved) (with_visit worker i bare_ask r))
descend worker below.Call r = call_base r r.params
descend worker (below.Known status) r = turn (Ok action.Moved) (with_base (bare_answer status) r)

-- ---- up

-- the answer of a create, a cleanup and a close stands: no postoperation changes it
abbrev pub stands : Operation → Bool
stands kind.Create = true
stands kind.Cleanup = true
stands kind.Close = true
stands _ = false

-- the answer that a postoperation is given, and what is left of it meanwhile: its bytes go along
abbrev pub lent_answer : Operation → Answer → Answer
lent_answer operation answer = cond (stands operation) (record answer { bytes = [] }) answer

abbrev pub left_answer : Operation → Answer → Answer
left_answer operation answer = cond (stands operation) answer (record answer { bytes = [] })

-- the answer after a postoperation
abbrev pub returned_answer : Operation → Answer → Data → Answer
returned_answer operation answer returned = cond (stands operation) answer
    (record { status = returned.status; information = returned.information; bytes = returned.out })

-- the parameters put back to what they were before the visits from that place on changed them
abbrev pub unwound_to : ℕ → FlowRecord → Option Params → FlowRecord
unwound_to place r (Some params) = record r { params = Some params; kept = take place r.kept }
unwound_to place r None = r

abbrev pub unwound : ℕ → FlowRecord → FlowRecord
unwound place r = unwound_to place r (slice_get r.kept place)

abbrev pub post_entry : WorkerId → InstanceId → PostState → Entry
post_entry worker i state = Post (record { instance = i; worker = worker; state = state })

abbrev pub give_post : WorkerId → Ask → FlowRecord → Option Params → Turned
give_post worker ask r (Some params) =
    turn (Ok (action.Post ask.instance (answered_data params (lent_answer r.operation r.answer)) ask.completion))
    (record (with_entry (post_entry worker ask.instance post.Running) PostRunning r) { params = None; answer = left_answer r.operation r.answer })
give_post worker ask r None = turn (Err WrongStep) r

abbrev pub call_post : WorkerId → Ask → FlowRecord → Turned
call_post worker ask r = give_post worker ask (unwound ask.place r) (unwound ask.place r).params

-- the operation passes on its way up: a postoperation is made, and is over
abbrev pub passed_up : WorkerId → Ask → FlowRecord → FlowRecord
passed_up worker ask r = with_entry (post_entry worker ask.instance post.Finished) Ascending (unwound ask.place r)

-- a drain of an instance, which may come at any stage
abbrev pub with_drain : InstanceId → Stage → FlowRecord → FlowRecord
with_drain i stage r = with_entry (Drain (record { instance = i; is_running = true })) stage r

-- whether a worker may make that postoperation
abbrev pub may_take : WorkerId → Ask → Bool
may_take worker ask = not ask.is_synchronized || (ask.worker.0 == worker.0)

abbrev pub ascend : WorkerId → Bool → FlowRecord → Option Ask → Turned
ascend worker is_stopping r None = turn (Ok action.Done) r
ascend worker is_stopping r (Some ask) =
    cond is_stopping
    (turn (Ok (action.Drain ask.instance ask.completion)) (with_drain ask.instance (InDrain ask.instance) r))
    (cond (may_take worker ask) (call_post worker ask r) (turn (Err WrongStep) r))

-- ---- the events

abbrev pub next_at : WorkerId → Below → Bool → FlowRecord → Stage → Turned
next_at worker lies_below is_stopping r Descending = descend worker lies_below r
next_at worker lies_below is_stopping r PreRunning = turn (Err WrongStep) r
next_at worker lies_below is_stopping r PreHeld = turn (Ok action.Held) r
next_at worker lies_below is_stopping r InBase = turn (Err WrongStep) r
next_at worker lies_below is_stopping r Ascending = ascend worker is_stopping r (slice_get (owed r.entries) 0)
next_at worker lies_below is_stopping r PostRunning = turn (Err WrongStep) r
next_at worker lies_below is_stopping r PostHeld = turn (Ok action.Held) r
next_at worker lies_below is_stopping r (InDrain i) = turn (Err WrongStep) r

-- the next step of an operation that wasn't collected: `lies_below` is what lies below it, if it is on
-- its way down, and `is_stopping` whether the instance that is owed the next postoperation is being torn down
abbrev pub next_of : WorkerId → Below → Bool → FlowRecord → Turned
next_of worker lies_below is_stopping r = cond r.collected (turn (Err WrongStep) r) (next_at worker lies_below is_stopping r r.stage)

-- an instance that lies below wasn't visited, and fewer than 32 were
abbrev pub MayLieBelow : Below → List Entry → Type 0
MayLieBelow (below.Instance i is_called) entries = (times i.0 (visited entries) ≡ 0) × (length (visited entries) < 32)
MayLieBelow below.Call entries = ⊤
MayLieBelow (below.Known status) entries = ⊤

-- what is kept of data that was handed back: what was received, where it was changed
abbrev pub kept_of : Params → Option Params → List Params
kept_of received None = []
kept_of received (Some changed) = received ∷ []

-- the answer after a preoperation's verdict: a Complete gives it
abbrev pub answer_after : PreState → Answer → Answer
answer_after (pre.Completed status) answer = bare_answer status
answer_after _ answer = answer

-- the preoperation that runs or holds gets its verdict
abbrev pub pre_settled : PreState → FlowRecord → FlowRecord
pre_settled state r = record r { answer = answer_after state r.answer; stage = pre_leads state; entries = map (settle_pre state) r.entries }

-- a preoperation callback returns: its data comes back with the verdict that counts
abbrev pub pre_returned_of : PreState → Data → FlowRecord → FlowRecord
pre_returned_of state returned r = record (pre_settled state r) {
  params = Some (current_of returned);
  kept =
      r.kept ++ kept_of returned.received returned.changed;
}

-- whether those are parameters of the operation: of its kind, a create's on its path, and within the limits
abbrev pub takes : Params → FlowRecord → Bool
takes params r = fit r.operation r.path params

-- what is kept where a preoperation that holds the operation has other parameters go down: what it received itself, which is kept once
abbrev pub kept_held : Option ℕ → List Params → Params → List Params
kept_held None kept current = kept
kept_held (Some place) kept current = cond (nat_lt place (length kept)) kept (kept ++ current ∷ [])

abbrev pub changed_from : Params → FlowRecord → Option Params → FlowRecord
changed_from params r None = r
changed_from params r (Some current) = record r { params = Some params; kept = kept_held (last_place r.entries) r.kept current }

-- the preoperation that holds the operation has those parameters go down
abbrev pub changed_held : Params → FlowRecord → FlowRecord
changed_held params r = changed_from params r r.params

-- the base answers, and gives the parameters back; a create's success gives the handle of that number
abbrev pub base_returned_of : BaseCall → Answer → HandleId → FlowRecord → FlowRecord
base_returned_of call answer handle r =
    record (with_base (base_counted call.params answer handle) r) { params = Some call.params; handle = handle_given call.params answer.status handle r.handle }

abbrev pub post_state : PostVerdict → PostState
post_state verdict.Finished = post.Finished
post_state verdict.MoreProcessing = post.Held

-- the postoperation that runs or holds gets its verdict
abbrev pub post_settled : PostState → FlowRecord → FlowRecord
post_settled state r = record r { stage = post_leads state; entries = map (settle_post state) r.entries }

-- a postoperation callback returns: what it received and its answer come back
abbrev pub post_returned_of : PostVerdict → Data → FlowRecord → FlowRecord
post_returned_of verdict returned r =
    record (post_settled (post_state verdict) r) { params = Some returned.received; answer = returned_answer r.operation r.answer returned }

-- a drain of an instance is over; the operation then stands at that stage
abbrev pub drain_settled : InstanceId → Stage → FlowRecord → FlowRecord
drain_settled i stage r = record r { stage = stage; entries = map (settle_drain i.0) r.entries }

-- a drain that `next` gave is over
abbrev pub drain_returned_of : InstanceId → FlowRecord → FlowRecord
drain_returned_of i r = drain_settled i Ascending r

-- the operation is done: it is on its way up, and nobody is owed a postoperation
abbrev pub done_at : Stage → List Ask → Bool
done_at Ascending [] = true
done_at _ _ = false

abbrev pub is_done : FlowRecord → Bool
is_done r = done_at r.stage (owed r.entries)

-- ---- what is handed back where data or a call isn't of the operation; nothing changes then

abbrev pub data_reply : Data → FlowRecord → Result ⊤ Data
data_reply returned r = cond (data_fits r.operation r.path returned) (Ok tt) (Err returned)

abbrev pub pre_after : PreState → Data → FlowRecord → FlowRecord
pre_after state returned r = cond (data_fits r.operation r.path returned) (pre_returned_of state returned r) r

abbrev pub post_after : PostVerdict → Data → FlowRecord → FlowRecord
post_after verdict returned r = cond (data_fits r.operation r.path returned) (post_returned_of verdict returned r) r

abbrev pub base_fits : BaseCall → Answer → FlowRecord → Bool
base_fits call answer r = call_fits r.operation r.volume r.path call && nat_le (length answer.bytes) 32768

abbrev pub base_reply : BaseCall → Answer → FlowRecord → Result ⊤ (BaseCall × Answer)
base_reply call answer r = cond (base_fits call answer r) (Ok tt) (Err (call, answer))

abbrev pub base_after : BaseCall → Answer → HandleId → FlowRecord → FlowRecord
base_after call answer handle r = cond (base_fits call answer r) (base_returned_of call answer handle r) r
