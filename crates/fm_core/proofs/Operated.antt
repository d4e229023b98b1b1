-- The events on operations, from what their parts did.
use Rattle.fm_core.proofs.Words.{IsAsked, FindsAt, IsState, IsTied, Ends, MayBring, MaySend, back_in, kept_brought, kept_sent, Sweeping, is_lost_of, base_of}
use Rattle.fm_core.proofs.Words.{drain_of, post_of, pre_of, answered, decided, known_in, target_in, Target, leaves_alike, ContextsKept, base_after, StandsAt}
use Rattle.fm_core.proofs.Words.{IsRefusalOrMemory, idle_there, told_there, empty_hand, sent_is_held, drains_next, volume_refusals, phase_refusal_at, FileHandle}
use Rattle.fm_core.proofs.Words.{FileStream, Place, Bool, Err, List, None, Ok, Option, Result, Some, [], ap, arith, cond, false, inl, inr, is_ok, refl, subst}
use Rattle.fm_core.proofs.Words.{sym, true, ℕ, ◌&&◌, ◌+◌, ◌<◌, ◌==◌, ◌^◌, ◌||◌, ◌∙◌, ◌∷◌, ◌≡◌, within_hands, hand_of, holds, IsLawful, Leaves, ContextTable}
use Rattle.fm_core.proofs.Words.{BaseCall, Data, data_fits, operation_of, Answer, Params, Request, PreVerdict, carried_by, handed, FlowRecord, base_fits}
use Rattle.fm_core.proofs.Words.{drain_returned_of, next_of, post_returned_of, pre_returned_of, FlowTable, carried, changed, is_full, is_number, operation_at}
use Rattle.fm_core.proofs.Words.{told, Below, FlowAction, PreState, InBase, InDrain, PostRunning, PreRunning, found_holds, AnswersOrMemory, first_of, CtxId}
use Rattle.fm_core.proofs.Words.{HandleId, InstanceId, OpId, StreamId, VolumeId, WorkerId, Operation, Status, Unless, asked_refused_at, base_step, drains_at}
use Rattle.fm_core.proofs.Words.{filed_pre, flow_after_next, has_no_handle_left, is_created_on, moved_on, received, sent, sent_in, state_at, state_given}
use Rattle.fm_core.proofs.Words.{FileTable, after_pre, created, handle_at, stream_for, LosesLinks, IsSound, after_next, is_idle, put, worker_at, World, carries}
use Rattle.fm_core.proofs.Words.{length, option_map, slice_get, and_parts, none-some, same_Some, slice_get_within}
use Rattle.fm_world.proofs.Words.{is_within_limits, PostVerdict, is_success, is_create, is_unanswered, MayLieBelow, base_returned_of, begun, begun_record}
use Rattle.fm_world.proofs.Words.{collected_of, verdict_counted, Entry, Stage, CreateMode, BaseReturns, BaseReturnsAt, Begins, FindsBelow, LosesByKnown, Nexts}
use Rattle.fm_world.proofs.Words.{NextsAt, PostReturns, PostReturnsAt, PreReturns, PreReturnsAt, asked_begun, base_returned, begin_refused, begun_on}
use Rattle.fm_world.proofs.Words.{carries_after, filed_next, filed_record, has_post, of_hand, or_else, pre_step, returned, AtBase, AtDrain, AtPost, AtPre, Spot}
use Rattle.fm_world.proofs.Words.{is_in_at, is_spot, spot_at, IsAmong, unwrap_or, and_from, eq-eqb, or_parts}
use Rattle.std.proofs.Common.{nat_eq}
use Rattle.fm_operations.specs.Table.{MayLieBelowOf}
use Rattle.fm_world.specs.Events.{PreReturnsOver, ReturnsFrom, filed_base, refused_at_by, refused_on_at, begun_at}
use Rattle.fm_world.specs.declared.begins_from.BeginsFrom.{BeginsFrom}
use Rattle.fm_core.proofs.Words.{StackWorld}
use Rattle.fm_world.proofs.Words.{BeginsAt, BeginsLower, placed_from, after_begin, begin_refused_at, from_refusals, placed_at}
use Rattle.fm_world.proofs.Initiators.{asks_there, begun_there, placed_balance, placed_holds}
use Rattle.fm_world.specs.Owners.{is_left_by, row_at}
use Rattle.fm_core.specs.Begun.{MayPlace}
use Rattle.fm_core.proofs.Changes.{change_agrees, change_same}
use Rattle.fm_world.proofs.Ties.{tied_there, spot_pre, spot_base, spot_post, spot_drain}
use Rattle.fm_world.proofs.Turns.{may_visit, unchanged_flow, next_balance, was_known}
use Rattle.fm_world.proofs.Requests.{full_from, none_else, asked_within, total_push, collect_balance, asked_sound}
use Rattle.fm_world.proofs.Returns.{pre_balance, post_balance, drain_balance}
use Rattle.fm_operations.proofs.Returns.{base_returned_carries}
use Rattle.fm_operations.proofs.Flows.{total_changed}
use Rattle.fm_core.proofs.Holding.{ends_leaves, tied_ends, next_table, brought_slots, sent_slots, may_bring, tied_brought, handed_balance, may_send, tied_sent}
use Rattle.fm_core.proofs.Losing.{loses, answer_gone, verdict_gone}
use Rattle.fm_core.specs.Descent.{IsDownOrCall}
use Rattle.fm_callback_data.specs.declared.request.FileRequest.{FileRequest}
use Rattle.fm_world.specs.Files.{stream_at}
use Rattle.fm_callback_data.specs.Requests.{params_of}
use Rattle.fm_world.proofs.Filing.{room_for}
use Rattle.fm_core.specs.Targets.{HasRoom}
use Rattle.fm_core.specs.Begun.{Asks, BeginsUnnamed}

-- ---- next

pub next_requires : {old : World} {kept : ContextsKept} (o : OpId) (lies : Below) (r : FlowRecord) → IsState old kept → operation_at o old.flow ≡ Some r
    → FindsAt old.stack old.files old.flow r lies → IsDownOrCall r lies → MayLieBelowOf lies (operation_at o old.flow)
next_requires {old} o lies r s at finds down = subst (MayLieBelowOf lies) (sym at) (elim down [
  | inl e ↦ may_visit old.stack r lies (found_holds (IsAmong old.stack) (is_number o) old.flow.operations r s.sound.under_way.among at) (finds e).0
  | inr e ↦ subst (λ b. MayLieBelow b r.entries) (sym e) tt
])

-- an operation that is there goes on
pub record Goes (old : World) (k : WorkerId) (o : OpId) (r : FlowRecord) (lies : Below) (result : Result FlowAction Status) (t : FlowTable) : Type 0 where
  pub at : operation_at o old.flow ≡ Some r
  pub finds : FindsAt old.stack old.files old.flow r lies
  pub reply : result ≡ told (λ r. (next_of k lies (drains_at old o) r).reply) (Err Status.WrongStep) o old.flow
  pub after : t ≡ flow_after_next old k o lies

pub goes : (old : World) (k : WorkerId) (o : OpId) (r : FlowRecord) (lies : Below) (drains : Bool) (result : Result FlowAction Status) (t : FlowTable)
    → operation_at o old.flow ≡ Some r
    → FindsAt old.stack old.files old.flow r lies → drains ≡ drains_next old.stack r
    → result ≡ told (λ r. (next_of k lies drains r).reply) (Err Status.WrongStep) o old.flow
    → t ≡ changed o (λ r. (next_of k lies drains r).after) old.flow → Goes old k o r lies result t
goes old k o r lies drains result t at finds same reply after =
    let drains' : drains ≡ drains_at old o = same ∙ sym (told_there (drains_next old.stack) false o old.flow r at) in record {
      at = at;
      finds = finds;
      reply = subst (λ d. result ≡ told (λ r. (next_of k lies d r).reply) (Err Status.WrongStep) o old.flow) drains' reply;
      after = subst (λ d. t ≡ changed o (λ r. (next_of k lies d r).after) old.flow) drains' after;
    }

-- the event, and what links lose after it
pub nexts : (old : World) (k : WorkerId) (o : OpId) (r : FlowRecord) (lies : Below) (result : Result FlowAction Status) (t : FlowTable) (ws : List Place)
    (cs : ContextTable) (fs : FileTable) (new : World)
    → is_idle (worker_at old.workers k) ≡ true → Goes old k o r lies result t → ws ≡ after_next old.workers k o result → cs ≡ received old.contexts k result
    → fs ≡ filed_next old o t result lies → LosesByKnown result lies (record old { flow = t; workers = ws; contexts = cs; files = fs }) new
    → Nexts old k o result new
unfolding Nexts
nexts old k o r lies result t ws cs fs new idle g workers contexts files loses =
    let mid : World = record old { flow = t; workers = ws; contexts = cs; files = fs } in
    let after = g.after in
    let filed = ap (λ (u : FlowTable). filed_next old o u result lies) after in
    let whole : mid ≡ record old {
      flow = flow_after_next old k o lies;
      workers = after_next old.workers k o result;
      contexts = received old.contexts k result;
      files = filed_next old o (flow_after_next old k o lies) result lies;
    } = cc in
    let finds : FindsBelow old.stack old.files old.flow (operation_at o old.flow) lies = subst (λ m. FindsBelow old.stack old.files old.flow m lies) (sym g.at)
    g.finds in
    subst (λ b. Unless Status.WrongStep b result old new (NextsAt old k o result new)) (sym idle) (lies, finds, mid, (g.reply, whole), loses)

-- there is no such operation
pub next_unknown : (old : World) (k : WorkerId) (o : OpId) → is_idle (worker_at old.workers k) ≡ true → operation_at o old.flow ≡ None
    → Nexts old k o (Err Status.WrongStep) old
unfolding Nexts
next_unknown old k o idle none =
    let result : Result FlowAction Status = Err Status.WrongStep in
    let f = λ (r : FlowRecord). (next_of k Below.Call (drains_at old o) r) in
    let reply : result ≡ told (λ r. (f r).reply) result o old.flow = sym (ap (λ m. unwrap_or (option_map (λ r. (f r).reply) m) result) none) in
    let after : old ≡ record old { flow = changed o (λ r. (f r).after) old.flow } = ap (λ t. record old { flow = t })
    (sym (unchanged_flow old.flow o (λ r. (f r).after) none)) in
    let finds : FindsBelow old.stack old.files old.flow (operation_at o old.flow) Below.Call = subst (λ m. FindsBelow old.stack old.files old.flow m Below.Call)
    (sym none) tt in
    subst (λ b. Unless Status.WrongStep b result old old (NextsAt old k o result old)) (sym idle) (Below.Call, finds, old, (reply, after), refl)

-- without an answer that was known, streams, handles and links stay
pub next_leads : {old now : World} {kept : ContextsKept} (k : WorkerId) (o : OpId) (r : FlowRecord) (lies : Below) (a : FlowAction) (t : FlowTable)
    (ws : List Place) (brought : ContextsKept)
    → IsState old kept → old ≡ now → is_idle (worker_at old.workers k) ≡ true → Goes old k o r lies (Ok a) t → ws ≡ after_next old.workers k o (Ok a)
    → old.contexts ≡ kept.table → brought ≡ kept_brought kept k.0 (back_in a)
    → known_in a lies ≡ None → Nexts now k o (Ok a) (record old { flow = t; workers = ws; contexts = brought.table })
next_leads {old} {now} {kept} k o r lies a t ws brought s now_is idle g workers same brings unknown =
    let new : World = record old { flow = t; workers = ws; contexts = brought.table } in
    let still = by_action a lies new unknown in
    subst (λ (w : World). Nexts w k o (Ok a) new) now_is
    (nexts old k o r lies (Ok a) t ws brought.table old.files new idle g workers (next_table kept brought k a brings ∙ ap
    (λ (x : ContextTable). received x k (Ok a)) (sym same)) still.0 still.1)
  where
    by_action : (a : FlowAction) (lies : Below) (w : World) → known_in a lies ≡ None → (old.files ≡ filed_next old o t (Ok a) lies)
        × LosesByKnown (Ok a) lies w w
    by_action FlowAction.Moved (Below.Known why) w unknown = absurd (none-some why (sym unknown))
    by_action a lies w unknown = (refl, refl)

-- with one, the operation is answered
pub next_answers : {old now : World} {kept : ContextsKept} (k : WorkerId) (o : OpId) (r : FlowRecord) (lies : Below) (a : FlowAction) (t : FlowTable)
    (ws : List Place) (brought after : ContextsKept)
    (fs : FileTable) (x : Target) (why : Status) → IsState old kept → old ≡ now → is_idle (worker_at old.workers k) ≡ true → Goes old k o r lies (Ok a) t → ws ≡
    after_next old.workers k o (Ok a) → old.contexts ≡ kept.table
    → brought ≡ kept_brought kept k.0 (back_in a) → IsTied brought t → known_in a lies ≡ Some why → x ≡ target_in r → fs ≡ answered t why x old.files
    → Sweeping (is_lost_of fs x) brought after
    → Nexts now k o (Ok a) (record old { flow = t; workers = ws; contexts = after.table; files = fs })
next_answers {old} {now} {kept} k o r lies a t ws brought after fs x why s now_is idle g workers same brings tied known is files sweeps =
    let mid : World = record old { flow = t; workers = ws; contexts = brought.table; files = fs } in
    let new : World = record old { flow = t; workers = ws; contexts = after.table; files = fs } in
    let slots : brought.table.slots ≡ old.contexts.slots = ap (λ (y : ContextsKept). y.table.slots) brings ∙ brought_slots kept k.0 (back_in a) ∙ ap
    (λ (y : ContextTable). y.slots) (sym same) in
    let filed : fs ≡ filed_base old o t why =
    files ∙ ap (λ y. answered t why y old.files) is ∙ sym (told_there (filed_record old.files t why) old.files o old.flow r g.at) in
    let knows = by_action a lies mid new known in
    subst (λ (w : World). Nexts w k o (Ok a) new) now_is
    (nexts old k o r lies (Ok a) t ws brought.table fs new idle g workers (next_table kept brought k a brings ∙ ap (λ (y : ContextTable). received y k (Ok a))
    (sym same))
    (filed ∙ sym knows.0) (knows.1 (loses old mid brought after x s.sound refl slots tied (answer_gone old.files fs t why x files) sweeps)))
  where
    by_action : (a : FlowAction) (lies : Below) (m n : World) → known_in a lies ≡ Some why
        → (filed_next old o t (Ok a) lies ≡ filed_base old o t why) × (LosesLinks m n → LosesByKnown (Ok a) lies m n)
    by_action FlowAction.Moved (Below.Known st) m n known = (ap (filed_base old o t) (same_Some st why known), λ h. h)
    by_action a lies m n known = absurd (none-some why known)

-- a handle that an answer gives has its room
has_room : (old : World) (o : OpId) (why : Status) (r : FlowRecord) → operation_at o old.flow ≡ Some r → old.flow.next < 2 ^ 64 → IsSound old
    → is_unanswered r.stage ≡ true
    → HasRoom old.files (target_in r) why
has_room old o why r at small s down opens' =
    let creates' = (and_parts (is_create r.operation) (is_success why) opens').0 in
    let room = room_for old.files old.flow o r at (and_from (is_create r.operation) (is_unanswered r.stage) creates' down) s.filed.room in
    (room.0, let next = room.1 in omega (arith, next, small))

pub next_room : {old : World} {kept : ContextsKept} (k : WorkerId) (o : OpId) (r : FlowRecord) (lies : Below) (a : FlowAction) (t : FlowTable) (x : Target)
    (why : Status) → IsState old kept
    → old.flow.next < 2 ^ 64 → Goes old k o r lies (Ok a) t → known_in a lies ≡ Some why → x ≡ target_in r → HasRoom old.files x why
next_room {old} k o r lies a t x why s small g known is = subst (λ y. HasRoom old.files y why) (sym is) (has_room old o why r g.at small s.sound
    (by_action a lies known (g.reply ∙ told_there (λ (y : FlowRecord). (next_of k lies (drains_at old o) y).reply) (Err Status.WrongStep) o old.flow r g.at)))
  where
    by_action : (a : FlowAction) (lies : Below) → known_in a lies ≡ Some why → Ok a ≡ (next_of k lies (drains_at old o) r).reply → is_unanswered r.stage ≡ true
    by_action FlowAction.Moved (Below.Known st) known reply = (was_known k st (drains_at old o) r reply).unanswered
    by_action a lies known reply = absurd (none-some why known)

-- what `next` hands out
next_carried : (old : World) (k : WorkerId) (o : OpId) (r : FlowRecord) (lies : Below) (result : Result FlowAction Status) (t : FlowTable) → IsSound old
    → Goes old k o r lies result t
    → (c : CtxId) → carried c old.flow ≡ carried c t + handed c result
next_carried old k o r lies result t s g c =
    let balance = next_balance old o k lies (drains_at old o) r g.at (λ e. (g.finds e).0) s c in
    let here = ap (λ (x : FlowTable). carried c x) g.after in
    let out = ap (handed c) (g.reply ∙ told_there (λ (x : FlowRecord). (next_of k lies (drains_at old o) x).reply) (Err Status.WrongStep) o old.flow r g.at) in
    omega (arith, balance, here, out)

pub next_brings : {old : World} {kept : ContextsKept} (k : WorkerId) (o : OpId) (r : FlowRecord) (lies : Below) (a : FlowAction)
    (t : FlowTable) → IsState old kept
    → is_idle (worker_at old.workers k) ≡ true → Goes old k o r lies (Ok a) t → old.contexts ≡ kept.table → MayBring kept k.0 (back_in a)
next_brings {old} {kept} k o r lies a t s idle g contexts =
    let at = idle_there old.workers k idle in
    may_bring kept k (back_in a) old.flow t (subst (λ n. k.0 < n) s.sound.under_way.hands (slice_get_within old.workers k.0 Place.Idle at))
    (sym (ap (λ (x : ContextTable). hand_of x.hands k.0) contexts) ∙ empty_hand old k Place.Idle at refl s.sound.owned)
    (handed_balance old.flow t a (next_carried old k o r lies (Ok a) t s.sound g)) s.tied

pub next_tied : {old : World} {kept : ContextsKept} (k : WorkerId) (o : OpId) (r : FlowRecord) (lies : Below) (a : FlowAction) (t : FlowTable)
    (brought' : ContextsKept) → IsState old kept
    → Goes old k o r lies (Ok a) t → length kept.carried ≡ length kept.table.slots → brought' ≡ kept_brought kept k.0 (back_in a) → IsTied brought' t
next_tied {old} {kept} k o r lies a t brought' s g matched brings =
    subst (λ x. IsTied x t) (sym brings) (tied_brought kept k (back_in a) old.flow t matched (handed_balance old.flow t a
    (next_carried old k o r lies (Ok a) t s.sound g)) s.tied)

pub next_stays : {old : World} {kept : ContextsKept} (k : WorkerId) (o : OpId) (r : FlowRecord) (lies : Below) (why : Status) (t : FlowTable) → IsState old kept
    → Goes old k o r lies (Err why) t
    → IsTied kept t
next_stays {old} k o r lies why t s g c = let k = next_carried old k o r lies (Err why) t s.sound g c in omega (arith, s.tied c, k)

-- ---- operations begin, are answered by the base and collected: nothing is carried otherwise

-- the table of operations took one more, or wanted memory for it
abbrev pub Took : FlowTable → VolumeId → Option StreamId → Option HandleId → ℕ → Option (List ℕ) → Params → Result OpId Status → FlowTable → Type 0
Took f v stream handle b path p result g =
    AnswersOrMemory (first_of ((is_full f, Status.TooMany) ∷ [])) result f g (λ (o : OpId). (o.0 ≡ f.next) × (g ≡ begun v stream handle b path p f))

pub begin_tied : (kept : ContextsKept) (v : VolumeId) (stream : Option StreamId) (handle : Option HandleId) (path : Option (List ℕ)) (p : Params)
    (result : Result OpId Status)
    (f g : FlowTable) (b : ℕ) → Took f v stream handle b path p result g → IsTied kept f → IsTied kept g
begin_tied kept v stream handle path p (Err why) f g b h tied = subst (IsTied kept) (sym h.1) tied
begin_tied kept v stream handle path p (Ok o) f g b h tied =
    subst (IsTied kept) (sym h.1.1) (λ c. tied c ∙ sym (total_push (carried_by c) f.operations (begun_record f.next v stream handle b path p) refl))

base_same : (call : BaseCall) (given : Answer) (h : HandleId) (r : FlowRecord) (c : CtxId) → carried_by c (base_after call given h r) ≡ carried_by c r
base_same call given h r c = by_fit (base_fits call given r)
  where
    by_fit : (b : Bool) → carried_by c (cond b (base_returned_of call given h r) r) ≡ carried_by c r
    by_fit true = base_returned_carries c call given h r
    by_fit false = refl

pub base_tied : (kept : ContextsKept) (o : OpId) (call : BaseCall) (given : Answer) (h : HandleId) (f g : FlowTable) → g ≡ changed o (base_after call given h) f
    → IsTied kept f → IsTied kept g
base_tied kept o call given h f g e tied = subst (IsTied kept) (sym e) (λ c. tied c ∙ by_record (operation_at o f) refl c)
  where
    by_record : (m : Option FlowRecord) → operation_at o f ≡ m → (c : CtxId) → carried c f ≡ carried c (changed o (base_after call given h) f)
    by_record None at c = ap (λ (x : FlowTable). carried c x) (sym (unchanged_flow f o (base_after call given h) at))
    by_record (Some r) at c =
        let k = total_changed (carried_by c) (is_number o) (base_after call given h) f.operations r at in
        let same = base_same call given h r c in
        omega (arith, k, same)

pub collect_tied : (kept : ContextsKept) (o : OpId) (f g : FlowTable) → g ≡ collected_of o f → IsTied kept f → IsTied kept g
collect_tied kept o f g e tied = subst (IsTied kept) (sym e) (λ c. tied c ∙ collect_balance f o (operation_at o f) refl c)

-- ---- where the worker is

pub pre_is : (m : Option Place) (p : OpId × InstanceId) → pre_of m ≡ Some p → m ≡ Some (Place.Pre p.0 p.1)
pre_is m p h = grind (arith, h)

pub base_is : (m : Option Place) (p : OpId) → base_of m ≡ Some p → m ≡ Some (Place.Base p)
base_is m p h = grind (arith, h)

pub post_is : (m : Option Place) (p : OpId × InstanceId) → post_of m ≡ Some p → m ≡ Some (Place.Post p.0 p.1)
post_is m p h = grind (arith, h)

pub drain_is : (m : Option Place) (p : OpId × InstanceId) → drain_of m ≡ Some p → m ≡ Some (Place.Drain p.0 p.1)
drain_is m p h = grind (arith, h)

-- as the code reads it
pub located : {A : Type 0} {old now : World} (read : Option Place → Option A) (to : A → Place) (k : WorkerId) (a : A)
    → ((x : Option Place) (b : A) → read x ≡ Some b → x ≡ Some (to b))
    → old ≡ now → read (worker_at now.workers k) ≡ Some a → worker_at old.workers k ≡ Some (to a)
located {old = old} {now} read to k a is same found = subst (λ (w : World). worker_at w.workers k ≡ Some (to a)) (sym same)
    (is (worker_at now.workers k) a found)

pub placed : {A : Type 0} {old now : World} (read : Option Place → Option A) (to : A → Place) (k : WorkerId) (a : A) (here : Option Place) (m : Option A)
    → ((x : Option Place) (b : A) → read x ≡ Some b → x ≡ Some (to b)) → old ≡ now → here ≡ worker_at now.workers k → m ≡ read here → m ≡ Some a
    → worker_at old.workers k ≡ Some (to a)
placed read to k a here m is same at reads found = located read to k a is same (ap read (sym at) ∙ sym reads ∙ found)

pub within_at : {old : World} {kept : ContextsKept} (k : WorkerId) (a : Place) → IsState old kept → worker_at old.workers k ≡ Some a → k.0 < 48
within_at {old} k a s at = subst (λ n. k.0 < n) s.sound.under_way.hands (slice_get_within old.workers k.0 a at)

-- the operation that a worker is inside of stands so
stands_in : (old : World) (k : WorkerId) (a : Place) (o : OpId) (s : Spot) (wanted : Stage) → IsSound old → worker_at old.workers k ≡ Some a
    → is_in_at o s a ≡ true → ((stage : Stage) (entries : List Entry) → is_spot s (spot_at stage entries) ≡ true → stage ≡ wanted)
    → (r : FlowRecord) × (operation_at o old.flow ≡ Some r) × (r.stage ≡ wanted)
stands_in old k a o s wanted sound at inside is =
    let there = tied_there old.workers old.flow k a o s sound.under_way.workers at inside in
    (there.0, there.1, is there.0.stage there.0.entries there.2)

both : (o : OpId) (i : InstanceId) → ((o.0 == o.0) && (i.0 == i.0)) ≡ true
both o i = and_from (nat_eq o.0 o.0) (nat_eq i.0 i.0) (eq-eqb o.0 o.0 refl) (eq-eqb i.0 i.0 refl)

pub in_pre : (old : World) (k : WorkerId) (o : OpId) (i : InstanceId) → IsSound old → worker_at old.workers k ≡ Some (Place.Pre o i)
    → (r : FlowRecord) × (operation_at o old.flow ≡ Some r) × (r.stage ≡ PreRunning)
in_pre old k o i s at = stands_in old k (Place.Pre o i) o (AtPre i.0) PreRunning s at (both o i) (λ stage entries h. (spot_pre i.0 stage entries h).0)

pub in_base : (old : World) (k : WorkerId) (o : OpId) → IsSound old → worker_at old.workers k ≡ Some (Place.Base o)
    → (r : FlowRecord) × (operation_at o old.flow ≡ Some r) × (r.stage ≡ InBase)
in_base old k o s at = stands_in old k (Place.Base o) o AtBase InBase s at (eq-eqb o.0 o.0 refl) spot_base

pub in_post : (old : World) (k : WorkerId) (o : OpId) (i : InstanceId) → IsSound old → worker_at old.workers k ≡ Some (Place.Post o i)
    → (r : FlowRecord) × (operation_at o old.flow ≡ Some r) × (r.stage ≡ PostRunning)
in_post old k o i s at = stands_in old k (Place.Post o i) o (AtPost i.0) PostRunning s at (both o i) (λ stage entries h. (spot_post i.0 stage entries h).0)

pub in_drain : (old : World) (k : WorkerId) (o : OpId) (i : InstanceId) → IsSound old → worker_at old.workers k ≡ Some (Place.Drain o i)
    → (r : FlowRecord) × (operation_at o old.flow ≡ Some r) × (r.stage ≡ InDrain i)
in_drain old k o i s at = stands_in old k (Place.Drain o i) o (AtDrain i.0) (InDrain i) s at (both o i) (spot_drain i)

pub stands_from : (o : OpId) (t : FlowTable) (wanted : Stage) → (r : FlowRecord) × (operation_at o t ≡ Some r) × (r.stage ≡ wanted)
    → StandsAt wanted (operation_at o t)
stands_from o t wanted h = subst (StandsAt wanted) (sym h.1) h.2

-- the operation that the callback or the call is of
pub there_from : (o : OpId) (t : FlowTable) (wanted : Stage) → (r : FlowRecord) × (operation_at o t ≡ Some r) × (r.stage ≡ wanted) → operation_at o t ≡ None → ⊥
there_from o t wanted h none = none-some h.0 (sym none ∙ h.1)

-- ---- something comes back: what fits is taken, what is strange is refused

-- a change that a test of the operation guards
guarded : (t : FlowTable) (o : OpId) (r : FlowRecord) (fits : FlowRecord → Bool) (step : FlowRecord → FlowRecord) (b : Bool)
    → operation_at o t ≡ Some r → fits r ≡ b
    → changed o (λ x. cond (fits x) (step x) x) t ≡ cond b (changed o step t) t
guarded t o r fits step true at e =
    ap (λ rs. record t { operations = rs })
    (change_agrees (is_number o) (λ x. cond (fits x) (step x) x) step t.operations
    (λ x h. ap (λ c. cond c (step x) x) (ap fits (same_Some x r (sym h ∙ at)) ∙ e)))
guarded t o r fits step false at e =
    ap (λ rs. record t { operations = rs })
    (change_same (is_number o) (λ x. cond (fits x) (step x) x) t.operations
    (λ x h. ap (λ c. cond c (step x) x) (ap fits (same_Some x r (sym h ∙ at)) ∙ e)))

-- by what was answered
abbrev pub Comes : {T : Type 0} → FlowTable → OpId → (FlowRecord → Bool) → (FlowRecord → FlowRecord) → T → Result (Unit {0}) T → FlowTable → Type 0
Comes t o fits step lent (Ok done) f = (told fits false o t ≡ true) × (f ≡ changed o step t)
Comes t o fits step lent (Err back) f = (told fits false o t ≡ false) × (f ≡ t) × (back ≡ lent)

pub comes : {T : Type 0} (t : FlowTable) (o : OpId) (r : FlowRecord) (fits : FlowRecord → Bool) (step : FlowRecord → FlowRecord) (lent : T)
    (answer a : Result (Unit {0}) T) (f : FlowTable)
    → operation_at o t ≡ Some r → answer ≡ told (λ x. cond (fits x) (Ok tt) (Err lent)) (Err lent) o t → f ≡ changed o (λ x. cond (fits x) (step x) x) t
    → answer ≡ a → Comes t o fits step lent a f
comes t o r fits step lent answer a f at reply after is =
    by_fit a (fits r) refl (sym is ∙ reply ∙ told_there (λ x. cond (fits x) (Ok tt) (Err lent)) (Err lent) o t r at)
  where
    here : told fits false o t ≡ fits r
    here = told_there fits false o t r at

    by_fit : (a : Result (Unit {0}) _) (b : Bool) → fits r ≡ b → a ≡ cond (fits r) (Ok tt) (Err lent) → Comes t o fits step lent a f
    by_fit (Ok done) true e is = (here ∙ e, after ∙ guarded t o r fits step true at e)
    by_fit (Err back) false e is = (here ∙ e, after ∙ guarded t o r fits step false at e, let is' = is ∙ ap (λ b. cond b (Ok tt) (Err lent)) e in cc)
    by_fit a b e is = absurd (grind (arith, e, is))

-- what fits is taken
fits_taken : (old new : World) (fits : Bool) (Event : Type 0) → fits ≡ true → Event
    → Unless {T = Unit {0}} Status.BadRequest fits (Ok (tt {0})) old new (◌≡◌ {A = Result (Unit {0}) Status} (Ok (tt {0})) (Ok (tt {0})) × Event)
fits_taken old new fits Event e h =
    subst (λ b. Unless {T = Unit {0}} Status.BadRequest b (Ok (tt {0})) old new (◌≡◌ {A = Result (Unit {0}) Status} (Ok (tt {0})) (Ok (tt {0})) × Event))
    (sym e) (refl, h)

-- ---- a preoperation's end

-- the verdict that counts
pub pre_state : (old : World) (k : WorkerId) (o : OpId) (i : InstanceId) (r : FlowRecord) (given counted : PreVerdict) (has : Bool) (state : PreState)
    (operation : Operation) → operation_at o old.flow ≡ Some r
    → operation ≡ r.operation → has ≡ has_post old.stack (slice_get old.stack.instances i.0) operation
    → counted ≡ of_hand (hand_of old.contexts.hands k.0) given
    → state ≡ verdict_counted counted operation has → state ≡ state_at old k o i given
pre_state old k o i r given counted has state operation at is has_is counted_is state_is =
    let hand = hand_of old.contexts.hands k.0 in
    state_is ∙ ap (λ v. verdict_counted v operation has) counted_is ∙ ap (verdict_counted (of_hand hand given) operation) has_is
    ∙ ap (λ p. verdict_counted (of_hand hand given) p (has_post old.stack (slice_get old.stack.instances i.0) p)) is
    ∙ sym (told_there (state_given old.stack hand i given) PreState.Passed o old.flow r at)

-- the context that it sends along is in the hand, and few are carried
pub sends_held : {old : World} {kept : ContextsKept} (k : WorkerId) (o : OpId) (i : InstanceId) (given : PreVerdict) (state : PreState) (m : Option CtxId)
    → IsState old kept → state ≡ state_at old k o i given → m ≡ sent_in state → old.contexts ≡ kept.table → MaySend kept k.0 m
sends_held {old} {kept} k o i given state m s same sends contexts =
    may_send kept k m old.flow s.sound.under_way.flow s.tied
    (λ d e. subst (λ (t : ContextTable). holds (hand_of t.hands k.0) d ≡ true) contexts
    (sent_is_held old k o i given d (sym (sends ∙ ap sent_in same) ∙ e)))

-- and completions carry it then
pub pre_tied : {old : World} {kept : ContextsKept} (k : WorkerId) (o : OpId) (i : InstanceId) (given : PreVerdict) (lent : Data) (state : PreState)
    (m : Option CtxId) → IsState old kept
    → worker_at old.workers k ≡ Some (Place.Pre o i) → state ≡ state_at old k o i given → m ≡ sent_in state → old.contexts ≡ kept.table
    → length kept.carried ≡ length kept.table.slots
    → IsTied (kept_sent kept k.0 m) (changed o (pre_returned_of state lent) old.flow)
pre_tied {old} {kept} k o i given lent state m s at same sends contexts matched =
    subst (λ x. IsTied (kept_sent kept k.0 x) (changed o (pre_returned_of state lent) old.flow)) (sym sends)
    (tied_sent kept k (sent_in state) old.flow (changed o (pre_returned_of state lent) old.flow) (subst (IsLawful (carries old)) contexts s.sound.owned.lawful)
    matched
    (subst (λ (t : ContextTable). k.0 < length t.hands) contexts
    (within_hands k.0 s.sound.owned.lawful (subst (λ n. k.0 < n) s.sound.under_way.hands (slice_get_within old.workers k.0 (Place.Pre o i) at))))
    (λ d e. subst (λ (t : ContextTable). holds (hand_of t.hands k.0) d ≡ true) contexts (sent_is_held old k o i given d
    (sym (ap sent_in same) ∙ e)))
    (pre_balance old k o i state lent at s.sound.under_way) s.tied)

pub pre_returns : {old now : World} {kept : ContextsKept} (k : WorkerId) (o : OpId) (i : InstanceId) (r : FlowRecord) (given : PreVerdict) (lent : Data)
    (state : PreState) (m : Option CtxId) (t : FlowTable)
    (ws : List Place) (left after : ContextsKept) (fs : FileTable) (x : Target) → IsState old kept → old ≡ now → worker_at old.workers k ≡ Some
    (Place.Pre o i) → operation_at o old.flow ≡ Some r
    → state ≡ state_at old k o i given → m ≡ sent_in state
    → Comes old.flow o (λ y. data_fits y.operation y.path lent) (pre_returned_of state lent) lent (Ok tt) t → ws ≡ put old.workers k Place.Idle
    → old.contexts ≡ kept.table → Ends (kept_sent kept k.0 m) left k.0 → IsTied (kept_sent kept k.0 m) (changed o (pre_returned_of state lent) old.flow)
    → x ≡ target_in r → fs ≡ decided t state x old.files
    → Sweeping (is_lost_of fs x) left after → PreReturns now k given lent (Ok tt) (record old { flow = t; workers = ws; contexts = after.table; files = fs })
unfolding PreReturns
pre_returns {old} {now} {kept} k o i r given lent state m t ws left after fs x s now_is at here same sends come workers contexts ends tied is files sweeps =
    let step = pre_returned_of state lent in
    let mid : World = record old { flow = t; workers = ws; contexts = left.table; files = fs } in
    let new : World = record old { flow = t; workers = ws; contexts = after.table; files = fs } in
    let flow = come.1 in
    let slots : left.table.slots ≡ old.contexts.slots = ends.leaves.slots ∙ sent_slots kept k.0 m ∙ ap (λ (y : ContextTable). y.slots) (sym contexts) in
    let left_tied = subst (IsTied left) (sym flow) (tied_ends (kept_sent kept k.0 m) left k.0 (changed o step old.flow) ends tied) in
    let filed : fs ≡ filed_pre old o (changed o step old.flow) state =
    files ∙ ap (λ (y : Target). decided t state y old.files) is ∙ ap (λ (u : FlowTable). decided u state (target_in r) old.files) flow
    ∙ sym (told_there (λ (y : FlowRecord). after_pre state y.operation y.stream (is_created_on y.stream (changed o step old.flow)) old.files) old.files o
    old.flow r here) in
    let leaves : Leaves (carries_after old o step) (sent old.contexts k (sent_in state)) left.table k.0 =
    subst (λ z. Leaves (carries_after old o step) (sent old.contexts k z) left.table k.0) sends
    (subst (λ u. Leaves (carries_after old o step) (sent u k m) left.table k.0) (sym contexts)
    (ends_leaves kept left k m (changed o step old.flow) ends tied)) in
    let over : PreReturnsOver old k o step state new = (
      mid,
      (leaves, let mid' : mid ≡ record (returned old k o step) { contexts = left.table; files = filed_pre old o (changed o step old.flow) state } = cc in mid'),
      loses old mid left after x s.sound refl slots left_tied (verdict_gone old.files fs t state x files) sweeps,
    ) in
    subst (λ (w : World). PreReturns w k given lent (Ok tt) new) now_is
    (subst (PreReturnsAt old k given lent (Ok tt) new) (sym at)
    (fits_taken old new (told (λ y. data_fits y.operation y.path lent) false o old.flow) (PreReturnsOver old k o (pre_step old k o i given lent)
    (state_at old k o i given) new) come.0
    (subst (λ y. PreReturnsOver old k o (pre_returned_of y lent) y new) same over)))

-- ---- the base's answer

pub base_returns : {old now : World} {kept : ContextsKept} (k : WorkerId) (o : OpId) (r : FlowRecord) (call : BaseCall) (given : Answer) (t : FlowTable)
    (ws : List Place) (after : ContextsKept)
    (fs : FileTable) (x : Target) → IsState old kept → old ≡ now → worker_at old.workers k ≡ Some (Place.Base o) → operation_at o old.flow ≡ Some r
    → Comes {T = BaseCall × Answer} old.flow o (base_fits call given) (base_step old call given) (call, given) (Ok tt) t → ws ≡ put old.workers k Place.Idle
    → old.contexts ≡ kept.table → IsTied kept t
    → x ≡ target_in r → fs ≡ answered t given.status x old.files → Sweeping (is_lost_of fs x) kept after
    → BaseReturns now k call given (Ok tt) (record old { flow = t; workers = ws; contexts = after.table; files = fs })
unfolding BaseReturns
base_returns {old} {now} {kept} k o r call given t ws after fs x s now_is at here come workers contexts tied is files sweeps =
    let step = base_step old call given in
    let mid : World = record old { flow = t; workers = ws; files = fs } in
    let new : World = record old { flow = t; workers = ws; contexts = after.table; files = fs } in
    let flow = come.1 in
    let filed : fs ≡ filed_base old o (changed o step old.flow) given.status =
    files ∙ ap (λ (y : Target). answered t given.status y old.files) is ∙ ap (λ (u : FlowTable). answered u given.status (target_in r) old.files) flow
    ∙ sym (told_there (filed_record old.files (changed o step old.flow) given.status) old.files o old.flow r here) in
    let whole : mid ≡ base_returned old k o call given = cc in
    let lost : LosesLinks mid new =
    loses old mid kept after x s.sound contexts (ap (λ (y : ContextTable). y.slots) (sym contexts)) tied
    (answer_gone old.files fs t given.status x files) sweeps in
    subst (λ (w : World). BaseReturns w k call given (Ok tt) new) now_is
    (subst (BaseReturnsAt old k call given (Ok tt) new) (sym at)
    (fits_taken old new (told (base_fits call given) false o old.flow) (LosesLinks (base_returned old k o call given) new) come.0
    (subst (λ (w : World). LosesLinks w new) whole lost)))

-- a create at the base has room for its handle
pub base_room : {old : World} {kept : ContextsKept} (o : OpId) (why : Status) (r : FlowRecord) (x : Target) → IsState old kept
    → operation_at o old.flow ≡ Some r → r.stage ≡ InBase
    → old.flow.next < 2 ^ 64 → x ≡ target_in r → HasRoom old.files x why
base_room {old} o why r x s at stage small is = subst (λ y. HasRoom old.files y why) (sym is) (has_room old o why r at small s.sound (ap is_unanswered stage))

-- ---- a postoperation's end, and a drain's

-- the event of a callback that is over
over : (old : World) (k : WorkerId) (o : OpId) (step : FlowRecord → FlowRecord) (t : FlowTable) (ws : List Place) (kept after : ContextsKept)
    → t ≡ changed o step old.flow
    → ws ≡ put old.workers k Place.Idle → old.contexts ≡ kept.table → Ends kept after k.0 → IsTied kept (changed o step old.flow)
    → ReturnsFrom old k o step old.contexts (record old { flow = t; workers = ws; contexts = after.table })
over old k o step t ws kept after flow workers contexts ends tied = (
  subst (λ x. Leaves (carries_after old o step) x after.table k.0) (sym contexts) (leaves_alike tied ends.leaves),
  let whole : ◌≡◌ {A = World} (record old { flow = t; workers = ws; contexts = after.table }) (record (returned old k o step)
      { contexts = after.table }) = cc in whole,
)

pub post_tied : {old : World} {kept : ContextsKept} (k : WorkerId) (o : OpId) (i : InstanceId) (given : PostVerdict) (lent : Data) → IsState old kept
    → worker_at old.workers k ≡ Some (Place.Post o i)
    → IsTied kept (changed o (post_returned_of given lent) old.flow)
post_tied {old} k o i given lent s at c = s.tied c ∙ sym (post_balance old k o i given lent at s.sound.under_way c)

pub drain_tied : {old : World} {kept : ContextsKept} (k : WorkerId) (o : OpId) (i : InstanceId) → IsState old kept
    → worker_at old.workers k ≡ Some (Place.Drain o i)
    → IsTied kept (changed o (drain_returned_of i) old.flow)
drain_tied {old} k o i s at c = s.tied c ∙ sym (drain_balance old k o i at s.sound.under_way c)

pub post_returns : {old now : World} {kept : ContextsKept} (k : WorkerId) (o : OpId) (i : InstanceId) (given : PostVerdict) (lent : Data) (t : FlowTable)
    (ws : List Place) (after : ContextsKept)
    → IsState old kept → old ≡ now → worker_at old.workers k ≡ Some (Place.Post o i)
    → Comes old.flow o (λ y. data_fits y.operation y.path lent) (post_returned_of given lent) lent (Ok tt) t
    → ws ≡ put old.workers k Place.Idle → old.contexts ≡ kept.table → Ends kept after k.0
    → PostReturns now k given (Some lent) (Ok tt) (record old { flow = t; workers = ws; contexts = after.table })
unfolding PostReturns
post_returns {old} {now} {kept} k o i given lent t ws after s now_is at come workers contexts ends =
    let new : World = record old { flow = t; workers = ws; contexts = after.table } in
    subst (λ (w : World). PostReturns w k given (Some lent) (Ok tt) new) now_is
    (subst (PostReturnsAt old k given (Some lent) (Ok tt) new) (sym at)
    (fits_taken old new (told (λ y. data_fits y.operation y.path lent) false o old.flow)
    (ReturnsFrom old k o (post_returned_of given lent) old.contexts new) come.0
    (over old k o (post_returned_of given lent) t ws kept after come.1 workers contexts ends (post_tied k o i given lent s at))))

-- ---- begin

-- an operation began, where nothing refused it but want of memory
pub begun_as : (old : World) (refusal : Option Status) (v : VolumeId) (stream : Option StreamId) (handle : Option HandleId)
    (path : Option (List ℕ)) (p : Params)
    (result : Result OpId Status) (t : FlowTable) (f g : FileTable) → refusal ≡ None → is_full old.flow ≡ false
    → Took old.flow v stream handle old.stack.births path p result t
    → f ≡ cond (is_ok result) g old.files
    → AnswersOrMemory refusal result old (record old { flow = t; files = f })
    (λ (o : OpId). (o.0 ≡ old.flow.next) × (◌≡◌ {A = World} (record old { flow = t; files = f }) (record old
    { flow = begun v stream handle old.stack.births path p old.flow; files = g })))
begun_as old refusal v stream handle path p (Ok o) t f g free room h files = (
  free,
  (
    h.1.0,
    ap (λ x. record old { flow = x; files = f }) h.1.1 ∙ ap (λ x. record old {
      flow = begun v stream handle old.stack.births path p
          old.flow;
      files = x;
    }) files,
  ),
)
begun_as old refusal v stream handle path p (Err why) t f g free room h files =
    let memory : why ≡ Status.NoMemory = subst (λ b. IsRefusalOrMemory (cond b (Some Status.TooMany) None) why) room h.0 in
    (subst (λ r. IsRefusalOrMemory r why) (sym free) memory, ap (λ x. record old { flow = x; files = f }) h.1 ∙ ap (λ x. record old { files = x }) files)

-- ---- a create begins

pub creates : {old now : World} (v : VolumeId) (path : List ℕ) (mode : CreateMode) (result : Result OpId Status) (t : FlowTable) (f : FileTable)
    → old ≡ now → first_of (volume_refusals now v (is_full now.flow || has_no_handle_left now)) ≡ None
    → Took old.flow v (Some (stream_for v path old.flow.next old.files)) None old.stack.births (Some path) (Params.Create path mode) result t
    → f ≡ cond (is_ok result) (created v path old.flow.next old.files) old.files
    → Begins now (Request.Create v path mode) result (record old { flow = t; files = f })
unfolding Begins
creates {old} v path mode result t f same free_now h files =
    let free = subst (λ (w : World). first_of (volume_refusals w v (is_full w.flow || has_no_handle_left w)) ≡ None) (sym same) free_now in
    subst (λ (w : World). Begins w (Request.Create v path mode) result (record old { flow = t; files = f })) same
    (begun_as old (first_of (volume_refusals old v (is_full old.flow || has_no_handle_left old))) v (Some (stream_for v path old.flow.next old.files)) None
    (Some path)
    (Params.Create path mode) result t f (created v path old.flow.next old.files) free (or_parts (is_full old.flow) (has_no_handle_left old)
    (full_from _ _ (is_full old.flow || has_no_handle_left old) free)).0 h files)

-- without a file: a listing, or a major function of a volume
pub lists : {old now : World} (v : VolumeId) (p : Params) (result : Result OpId Status) (t : FlowTable) → old ≡ now
    → first_of (volume_refusals now v (is_full old.flow)) ≡ None
    → Took old.flow v None None old.stack.births None p result t → BeginsUnnamed now v p result (record old { flow = t })
lists {old} v p result t same free_now h =
    let free = subst (λ (w : World). first_of (volume_refusals w v (is_full old.flow)) ≡ None) (sym same) free_now in
    subst (λ (w : World). BeginsUnnamed w v p result (record old { flow = t })) same
    (begun_as old (first_of (volume_refusals old v (is_full old.flow))) v None None None p result t old.files old.files free
    (full_from _ _ (is_full old.flow) free) h (files_kept (is_ok result)))
  where
    files_kept : (b : Bool) → old.files ≡ cond b old.files old.files
    files_kept true = refl
    files_kept false = refl

pub begin_wants : (old : World) (what : Request) → begin_refused old what ≡ None → Begins old what (Err Status.NoMemory) old
unfolding Begins
begin_wants old what h = (subst (λ r. IsRefusalOrMemory r Status.NoMemory) (sym h) refl, refl)

-- ---- an operation on a handle begins

pub asks : {old now : World} (lower : Bool) (h : HandleId) (p : Params) (x : FileHandle) (v : VolumeId) (result : Result OpId Status) (t : FlowTable)
    (f : FileTable)
    → old ≡ now → (asked : IsAsked lower old h p x v) → Took old.flow v (Some x.stream) (Some h) old.stack.births (Some asked.stream.path) p result t
    → f ≡ cond (is_ok result) (moved_on (operation_of p) h old.flow.next old.files) old.files
    → Asks lower now h p result (record old { flow = t; files = f })
unfolding Asks
asks {old} lower h p x v result t f same asked event files =
    let y = asked.stream in
    let parts = asked_within (is_within_limits p) (refused_at_by lower old p (handle_at h old.files)) asked.free in
    let on : refused_on_at lower old p x (Some y) ≡ None =
    ap (refused_on_at lower old p x) (sym asked.there) ∙ ap (refused_at_by lower old p) (sym asked.handle) ∙ parts.1 in
    let room = full_from _ _ (is_full old.flow) (none_else (phase_refusal_at lower old.flow (operation_of p) x.phase) _ on) in
    let here : asked_begun old h p ≡ begun_on old h p x (Some y) = ap (begun_at old h p) asked.handle ∙ ap (begun_on old h p x) asked.there in
    let begun' = begun_as old (asked_refused_at lower old h p) y.volume (Some x.stream) (Some h) (Some y.path) p result t f
    (moved_on (operation_of p) h old.flow.next old.files) asked.free room
    (subst (λ (u : VolumeId). Took old.flow u (Some x.stream) (Some h) old.stack.births (Some y.path) p result t) (sym asked.volume) event) files in
    subst (λ (w : World). Asks lower w h p result (record old { flow = t; files = f })) same
    (subst (λ (w : World). AnswersOrMemory (asked_refused_at lower old h p) result old (record old { flow = t; files = f })
    (λ (o : OpId). (o.0 ≡ old.flow.next) × (◌≡◌ {A = World} (record old { flow = t; files = f }) w))) (sym here) begun')

-- what is asked leaves a sound World
pub asks_sound : (lower : Bool) (old : World) (h : HandleId) (p : Params) (result : Result OpId Status) (new : World) → Asks lower old h p result new
    → is_create (operation_of p) ≡ false → IsSound old → IsSound new
unfolding Asks
asks_sound lower old h p (Err why) new e none s = subst IsSound (sym e.1) s
asks_sound lower old h p (Ok o) new e none s = subst IsSound (sym e.1.1) (asked_sound lower old h p e.0 none s)

-- which the event is of, for a request
pub asks_begins : (lower : Bool) (old : World) (h : HandleId) (asked : FileRequest) (result : Result OpId Status) (new : World)
    → Asks lower old h (params_of asked) result new → BeginsAt lower old (Request.OnHandle h asked) result new
unfolding Asks
asks_begins lower old h asked result new e = e

pub asked_phase : (lower : Bool) (w : World) (h : HandleId) (p : Params) (x : FileHandle) (v : VolumeId) (why : Status) → is_within_limits p ≡ true
    → handle_at h w.files ≡ Some x
    → option_map (λ (y : FileStream). y.volume) (stream_at x.stream w.files) ≡ Some v
    → phase_refusal_at lower w.flow (operation_of p) x.phase ≡ Some why
    → asked_refused_at lower w h p ≡ Some why
asked_phase lower w h p x v why within open' there refuses =
    ap (λ b. cond b (refused_at_by lower w p (handle_at h w.files)) (Some Status.BadRequest)) within
    ∙ ap (refused_at_by lower w p) open' ∙ by_stream (stream_at x.stream w.files) there
  where
    by_stream : (m : Option FileStream) → option_map (λ (y : FileStream). y.volume) m ≡ Some v → refused_on_at lower w p x m ≡ Some why
    by_stream None e = absurd (none-some v e)
    by_stream (Some y) e = ap (λ m. or_else m (first_of (volume_refusals w y.volume (is_full w.flow)))) refuses

-- ---- an operation of a filter's own begins

abbrev number_of : ℕ → OpId
number_of n = record { 0 = n }

numbered : (p : OpId) (n : ℕ) → p.0 ≡ n → p ≡ record { 0 = n }
numbered p n is = ap number_of is

-- what was asked, and goes to its place
pub lower_begins : {mid : World} (old : World) (begins : BeginsFrom) (what : Request) (o : OpId) (new : World)
    → first_of (from_refusals old begins what) ≡ None → BeginsAt true old what (Ok o) mid → new ≡ placed_at o begins mid
    → BeginsLower old begins what (Ok o) new
unfolding BeginsLower
lower_begins old begins what o new free event at = (
  ap (λ m. or_else m (begin_refused_at true old what)) free ∙ event.0,
  (
    event.1.0,
    at ∙ ap (placed_at o begins) event.1.1 ∙ ap (λ (p : OpId). placed_at p begins (after_begin old what)) (numbered o old.flow.next event.1.0),
  ),
)

pub may_place : {mid : World} (old : World) (begins : BeginsFrom) (what : Request) (o : OpId) → IsSound old
    → first_of (from_refusals old begins what) ≡ None → BeginsAt true old what (Ok o) mid → MayPlace mid o begins
may_place old begins what o s free event =
    let there = begun_there true old what event.0 s in
    let left = asks_there old begins what free in
    subst (λ (w : World). MayPlace w o begins) (sym event.1.1) (record {
      row = there.0.0;
      there = ap (λ (p : OpId). operation_at p (after_begin old what).flow) (numbered o old.flow.next event.1.0) ∙ there.0.1;
      entries = there.0.2.entries;
      stage = there.0.2.stage;
      left = λ i is. ap (λ (t : StackWorld). is_left_by (row_at t i)) there.1 ∙ left i is;
    })

-- what refuses the instance, or what it asks
pub lower_refused : (old : World) (begins : BeginsFrom) (what : Request) (why : Status) → first_of (from_refusals old begins what) ≡ Some why
    → BeginsLower old begins what (Err why) old
unfolding BeginsLower
lower_refused old begins what why refuses =
    (subst (λ m. IsRefusalOrMemory (or_else m (begin_refused_at true old what)) why) (sym refuses) refl, refl)

pub lower_wants : (old : World) (begins : BeginsFrom) (what : Request) (why : Status) (new : World) → first_of (from_refusals old begins what) ≡ None
    → BeginsAt true old what (Err why) new → BeginsLower old begins what (Err why) new
unfolding BeginsLower
lower_wants old begins what why new free event =
    (subst (λ m. IsRefusalOrMemory (or_else m (begin_refused_at true old what)) why) (sym free) event.0, event.1)

-- a State in which it goes to its place
pub placed_state : {old now : World} {kept : ContextsKept} (o : OpId) (begins : BeginsFrom) (t : FlowTable) → IsState old kept → old ≡ now
    → MayPlace now o begins → t ≡ changed o (placed_from old.stack.births begins) old.flow → IsState (record old { flow = t }) kept
placed_state {old} {kept = kept} o begins t s same may_now is =
    let may = subst (λ (w : World). MayPlace w o begins) (sym same) may_now in
    subst (λ (u : FlowTable). IsState (record old { flow = u }) kept) (sym is) (record {
      sound = placed_holds old o may.row begins may.there (record { entries = may.entries; stage = may.stage }) may.left s.sound;
      tied = λ c. s.tied c ∙ placed_balance old.stack.births old.flow o may.row begins may.there c;
    })

-- ---- collect
