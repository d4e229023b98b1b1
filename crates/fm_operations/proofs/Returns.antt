-- What comes back to an operation: a callback returns, the base answers, a drain is over.
use Rattle.fm_operations.proofs.Words.{ℕ, true, false, cond, not, List, [], length, map, Option, Some, None, refl, sym, ap, arith, nat_tests}
use Rattle.fm_operations.proofs.Words.{length-append, InstanceId, HandleId, BaseCall, Params, Answer, PostVerdict, Data, data_fits, PreRunning, InBase}
use Rattle.fm_operations.proofs.Words.{Ascending, PostRunning, InDrain, PreState, PostState, Base, one, times, last_visited, owed, instances}
use Rattle.fm_operations.proofs.Words.{settle_pre, settle_post, settle_drain, last_posted, FlowRecord, pre_leads, post_leads, pre_returned_of, base_fits}
use Rattle.fm_operations.proofs.Words.{base_returned_of, post_state, post_returned_of, drain_returned_of, IsSound, HasPath, All, nat_le, unwrap_or}
use Rattle.fm_operations.proofs.Words.{All-append, All-nil, All-push, change_passes, current_of, base_counted}
use Rattle.fm_operations.proofs.Words.{handle_given, returned_answer, kept_of, answer_after, lends, keeps_more, and_parts, CtxId}
use Rattle.std.proofs.Common.{◌≡◌, ◌+◌, ◌≤◌, ◌==◌, ◌&&◌, ◌++◌, ◌∙◌}
use Rattle.fm_types.specs.declared.operation.Operation.{Operation}
use Rattle.fm_callback_data.specs.Params.{same_path, fit, call_fits}
use Rattle.fm_operations.specs.declared.entry.PreState.TheVariants as pre
use Rattle.fm_operations.specs.declared.entry.PostState.TheVariants as post
use Rattle.fm_operations.specs.Verdict.{is_counted}
use Rattle.fm_operations.specs.Creates.{is_create, is_unanswered}
use Rattle.fm_operations.proofs.Words.{Bool, is_creating, post_after}
use Rattle.fm_operations.proofs.Flows.{either_way}
use Rattle.fm_operations.specs.Counts.{carried_among, carried_by, taken_by, flight, leaves_by, leaves_at, post_leaves_by}
use Rattle.fm_operations.proofs.Owed.{owed_push_none}
use Rattle.fm_operations.proofs.Course.{course_base}
use Rattle.fm_operations.proofs.Settled.{the_open_pre, places_settled, settles_pre, settles_post, settles_drain, course_pre_settled, course_post_settled}
use Rattle.fm_operations.proofs.Settled.{course_drain_settled}
use Rattle.fm_operations.proofs.Counting.{opens_push, flight_pre_settled, carried_pre_settled, flight_post_settled, owed_post_settled}
use Rattle.fm_operations.proofs.Counting.{owed_drain_settled, opens_drain_settled}
use Rattle.fm_operations.proofs.Soundness.{at_stage, sound_moved, sound_pushed}
use Rattle.fm_operations.proofs.Placing.{placed_at, placed_settled, unplaced}
use Rattle.fm_operations.proofs.Follows.{Leaves, number_of, leaves_pre, leaves_post, taken_leaves}
use Rattle.fm_operations.specs.Tallied.{if_taken, left_pre, left_post}
use Rattle.fm_operations.specs.Counts.{leaves_at, leaves_by, post_leaves_by}
use Rattle.fm_operations.proofs.Words.{base_after, data_reply, pre_after, ⊤}
use Rattle.std.proofs.Common.{Result}

-- the data fits, so what was received, what it was changed to and what came out do
fits_parts : (operation : Operation) (path : Option (List ℕ)) (d : Data) → data_fits operation path d ≡ true
    → (fit operation path d.received ≡ true) × (change_passes (fit operation path) d.changed ≡ true) × (length d.out ≤ 32768)
fits_parts operation path d fits =
    let parts = and_parts (fit operation path d.received) (change_passes (fit operation path) d.changed && nat_le (length d.out) 32768) fits in
    let rest = and_parts (change_passes (fit operation path) d.changed) (nat_le (length d.out) 32768) parts.1 in
    (parts.0, rest.0, grind (arith, nat_tests, rest.1))

-- ---- a preoperation returns

-- a verdict gives the parameters back, and nothing more is kept then
pub returned : (state : PreState) → is_counted state ≡ true → (lends (pre_leads state) ≡ false) × (keeps_more (pre_leads state) ≡ 0)
returned state c = (grind (arith, c), grind (arith, c))

fit_change : (operation : Operation) (path : Option (List ℕ)) (received : Params) (changed : Option Params) → fit operation path received ≡ true
    → change_passes (fit operation path) changed ≡ true → fit operation path (unwrap_or changed received) ≡ true
fit_change operation path received None a b = a
fit_change operation path received (Some p) a b = b

fit_kept : (operation : Operation) (path : Option (List ℕ)) (d : Params) (changed : Option Params) → fit operation path d ≡ true
    → All (λ p. fit operation path p ≡ true) (kept_of d changed)
fit_kept operation path d None h = All-nil (λ p. fit operation path p ≡ true)
fit_kept operation path d (Some p) h = All-push (λ q. fit operation path q ≡ true) [] d (All-nil (λ q. fit operation path q ≡ true)) h

pub sound_pre_returned : (state : PreState) (d : Data) (r : FlowRecord) → r.stage ≡ PreRunning → is_counted state ≡ true
    → data_fits r.operation r.path d ≡ true → IsSound r → IsSound (pre_returned_of state d r)
sound_pre_returned state d r st counted fits h =
    let parts = fits_parts r.operation r.path d fits in
    let at = at_stage r PreRunning st h in
    let a = ap length (settles_pre r.entries state (the_open_pre PreRunning r.entries at.0 refl)).visits in
    let few : length (kept_of d.received d.changed) ≤ 1 = grind arith in
    let short : length (answer_after state r.answer).bytes ≤ 32768 = grind (arith, h.bytes) in
    sound_moved r (pre_leads state) (map (settle_pre state) r.entries) (Some (current_of d)) (r.kept ++ kept_of d.received d.changed)
    (answer_after state r.answer) r.handle h (rw st refl)
    (course_pre_settled PreRunning r.entries state refl at.0) (sym (ap not (returned state counted).0))
    (fit_change r.operation r.path d.received d.changed parts.0 parts.1)
    (All-append (λ p. fit r.operation r.path p ≡ true) r.kept (kept_of d.received d.changed) h.kept (fit_kept r.operation r.path d.received d.changed parts.0))
    (omega (arith, a, at.2, length-append r.kept (kept_of d.received d.changed), few, (returned state counted).1))
    (placed_settled state r.entries (map (settle_pre state) r.entries) r.kept (r.kept ++ kept_of d.received d.changed)
    (omega (arith, length-append r.kept (kept_of d.received d.changed))) (places_settled r.entries state)
    (settles_pre r.entries state (the_open_pre PreRunning r.entries at.0 refl)).visits (placed_at r PreRunning st h)) short

pub pre_returned_carries : (c : CtxId) (state : PreState) (d : Data) (r : FlowRecord) → r.stage ≡ PreRunning → IsSound r
    → carried_by c (pre_returned_of state d r) ≡ carried_by c r + taken_by c state
pre_returned_carries c state d r st h = carried_pre_settled PreRunning r.entries state c refl (at_stage r PreRunning st h).0

pub pre_returned_flies : (j : ℕ) (state : PreState) (d : Data) (r : FlowRecord) → r.stage ≡ PreRunning → IsSound r
    → flight j r ≡ flight j (pre_returned_of state d r) + leaves_at j (last_visited r.entries) (leaves_by state)
pre_returned_flies j state d r st h = flight_pre_settled PreRunning r.entries state j refl (at_stage r PreRunning st h).0

-- the path for the base's call is at hand until the call
pub path_down : (state : PreState) (path given : Option (List ℕ)) → given ≡ path → HasPath (pre_leads state) path given
path_down (pre.Completed status) path given h = tt
path_down state path given h = h

-- ---- the base answers

-- what counts of an answer isn't longer than the answer
counted_short : (call : Params) (answer : Answer) (handle : HandleId) → length answer.bytes ≤ 32768 → length (base_counted call answer handle).bytes ≤ 32768
counted_short call answer handle h = grind (arith, h)

pub sound_base : (call : BaseCall) (answer : Answer) (handle : HandleId) (r : FlowRecord) → r.stage ≡ InBase
    → base_fits call answer r ≡ true → IsSound r → IsSound (base_returned_of call answer handle r)
sound_base call answer handle r st fits h =
    let parts = and_parts (call_fits r.operation r.volume r.path call) (nat_le (length answer.bytes) 32768) fits in
    let own = and_parts (call.volume.0 == r.volume.0) (same_path call.path r.path && fit r.operation r.path call.params) parts.0 in
    let short : length answer.bytes ≤ 32768 = grind (arith, nat_tests, parts.1) in
    let counts = base_counted call.params answer handle in
    sound_pushed r InBase Ascending (Base counts.status counts.information) (Some call.params) counts
    (handle_given call.params answer.status handle r.handle) st h (rw st refl)
    (course_base InBase r.entries counts.status counts.information refl refl (at_stage r InBase st h).0) refl
    (and_parts (same_path call.path r.path) (fit r.operation r.path call.params) own.1).1
    (omega arith) tt (counted_short call.params answer handle short)

base_owed : (call : BaseCall) (answer : Answer) (handle : HandleId) (r : FlowRecord) → owed (base_returned_of call answer handle r).entries ≡ owed r.entries
base_owed call answer handle r =
    let counts = base_counted call.params answer handle in owed_push_none r.entries (Base counts.status counts.information) refl (λ i. refl)

pub base_returned_carries : (c : CtxId) (call : BaseCall) (answer : Answer) (handle : HandleId) (r : FlowRecord)
    → carried_by c (base_returned_of call answer handle r) ≡ carried_by c r
base_returned_carries c call answer handle r = ap (carried_among c) (base_owed call answer handle r)

pub base_returned_flies : (j : ℕ) (call : BaseCall) (answer : Answer) (handle : HandleId) (r : FlowRecord)
    → flight j (base_returned_of call answer handle r) ≡ flight j r
base_returned_flies j call answer handle r =
    let counts = base_counted call.params answer handle in
    omega (arith, ap (λ xs. times j (instances xs)) (base_owed call answer handle r), opens_push j r.entries (Base counts.status counts.information))

-- ---- a postoperation returns

pub sound_post_returned : (v : PostVerdict) (d : Data) (r : FlowRecord) → r.stage ≡ PostRunning → data_fits r.operation r.path d ≡ true
    → IsSound r → IsSound (post_returned_of v d r)
sound_post_returned v d r st fits h =
    let parts = fits_parts r.operation r.path d fits in
    let at = at_stage r PostRunning st h in
    let back : lends (post_leads (post_state v)) ≡ false = grind arith in
    let few : keeps_more (post_leads (post_state v)) ≡ 0 = grind arith in
    let short : length (returned_answer r.operation r.answer d).bytes ≤ 32768 = grind (arith, h.bytes, parts.2) in
    sound_moved r (post_leads (post_state v)) (map (settle_post (post_state v)) r.entries) (Some d.received) r.kept
    (returned_answer r.operation r.answer d) r.handle h (rw st refl)
    (course_post_settled PostRunning r.entries (post_state v) refl at.0) (sym (ap not back)) parts.0 h.kept
    (omega (arith, ap length (settles_post r.entries (post_state v)).visits, at.2, few)) (unplaced (post_state v) (map (settle_post (post_state v)) r.entries) r.kept) short

pub post_returned_carries : (c : CtxId) (v : PostVerdict) (d : Data) (r : FlowRecord) → r.stage ≡ PostRunning → IsSound r
    → carried_by c (post_returned_of v d r) ≡ carried_by c r
post_returned_carries c v d r st h = ap (carried_among c) (owed_post_settled PostRunning r.entries (post_state v) refl (at_stage r PostRunning st h).0)

pub post_returned_flies : (j : ℕ) (v : PostVerdict) (d : Data) (r : FlowRecord) → r.stage ≡ PostRunning → IsSound r
    → flight j r ≡ flight j (post_returned_of v d r) + leaves_at j (last_posted r.entries) (post_leaves_by (post_state v))
post_returned_flies j v d r st h = flight_post_settled PostRunning r.entries (post_state v) j refl (at_stage r PostRunning st h).0

pub path_up : (state : PostState) (path given : Option (List ℕ)) → HasPath (post_leads state) path given
path_up post.Running path given = tt
path_up state path given = tt

-- ---- a drain is over

pub sound_drain_returned : (i : InstanceId) (r : FlowRecord) → r.stage ≡ InDrain i → IsSound r → IsSound (drain_returned_of i r)
sound_drain_returned i r st h =
    let at = at_stage r (InDrain i) st h in
    sound_moved r Ascending (map (settle_drain i.0) r.entries) r.params r.kept r.answer r.handle h (rw st refl) (course_drain_settled i r.entries at.0)
    at.1 h.params h.kept (omega (arith, ap length (settles_drain i.0 r.entries).visits, at.2)) tt h.bytes

pub drain_returned_carries : (c : CtxId) (i : InstanceId) (r : FlowRecord) → carried_by c (drain_returned_of i r) ≡ carried_by c r
drain_returned_carries c i r = ap (carried_among c) (owed_drain_settled i.0 r.entries)

pub drain_returned_flies : (j : ℕ) (i : InstanceId) (r : FlowRecord) → r.stage ≡ InDrain i → IsSound r
    → flight j r ≡ flight j (drain_returned_of i r) + one (i.0 == j)
drain_returned_flies j i r st h =
    let e = ap (λ n. cond (i.0 == j) n 0) (at_stage r (InDrain i) st h).0.drain in
    omega (arith, opens_drain_settled i.0 j r.entries, e, ap (λ xs. times j (instances xs)) (owed_drain_settled i.0 r.entries))

-- ---- neither answers a create

and_false : (b : Bool) → (b && false) ≡ false
and_false b = grind arith

pub post_uncreated : (v : PostVerdict) (d : Data) (r s : FlowRecord) → r.stage ≡ PostRunning → s ≡ post_after v d r → is_creating s ≡ is_creating r
post_uncreated v d r s st is =
    let here : is_creating r ≡ false = rw st (and_false (is_create r.operation)) in
    let up : is_unanswered (post_leads (post_state v)) ≡ false = grind arith in
    ap is_creating is
    ∙ either_way (λ x. is_creating x ≡ is_creating r) (data_fits r.operation r.path d) (λ e. ap (λ b. is_create r.operation && b) up
    ∙ and_false (is_create r.operation) ∙ sym here) (λ e. refl)

pub drain_uncreated : (i : InstanceId) (r s : FlowRecord) → r.stage ≡ InDrain i → s ≡ drain_returned_of i r → is_creating s ≡ is_creating r
drain_uncreated i r s st is = ap is_creating is ∙ ap (λ stage. is_create r.operation && is_unanswered stage) (sym st)

-- ---- the number that is kept of its instance follows

-- an answer of the base
pub base_flies : (j : ℕ) (call : BaseCall) (answer : Answer) (handle : HandleId) (r s : FlowRecord)
    → s ≡ base_after call answer handle r → flight j s ≡ flight j r
base_flies j call answer handle r s is =
    ap (flight j) is ∙ either_way (λ x. flight j x ≡ flight j r) (base_fits call answer r) (λ e. base_returned_flies j call answer handle r) (λ e. refl)

pub pre_leaves : (state : PreState) (lent : Data) (r : FlowRecord) (at : Option InstanceId) {s : FlowRecord} {reply : Result ⊤ Data}
    {gone : Option InstanceId} → r.stage ≡ PreRunning
    → IsSound r → number_of at ≡ last_visited r.entries → s ≡ pre_after state lent r → reply ≡ data_reply lent r
    → gone ≡ if_taken reply (left_pre state at) → Leaves gone r s
pre_leaves state lent r at st sound last is told goes =
    taken_leaves lent (data_fits r.operation r.path lent) r (pre_returned_of state lent r) (left_pre state at) is told goes
    (λ j. omega (arith, pre_returned_flies j state lent r st sound, leaves_pre j state at, ap (λ l. leaves_at j l (leaves_by state)) last))

pub post_leaves : (verdict : PostVerdict) (lent : Data) (r : FlowRecord) (at : Option InstanceId) {s : FlowRecord}
    {reply : Result ⊤ Data} {gone : Option InstanceId} → r.stage ≡ PostRunning
    → IsSound r → number_of at ≡ last_posted r.entries → s ≡ post_after verdict lent r → reply ≡ data_reply lent r
    → gone ≡ if_taken reply (left_post (post_state verdict) at) → Leaves gone r s
post_leaves verdict lent r at st sound last is told goes =
    let state = post_state verdict in
    taken_leaves lent (data_fits r.operation r.path lent) r (post_returned_of verdict lent r) (left_post state at) is told goes
    (λ j. omega (arith, post_returned_flies j verdict lent r st sound, leaves_post j state at, ap (λ l. leaves_at j l (post_leaves_by state)) last))

pub drain_leaves : (i : InstanceId) (r : FlowRecord) {s : FlowRecord} → r.stage ≡ InDrain i → IsSound r → s ≡ drain_returned_of i r → Leaves (Some i) r s
drain_leaves i r st sound is j = omega (arith, ap (flight j) is, drain_returned_flies j i r st sound)
