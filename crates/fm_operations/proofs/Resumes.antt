-- What comes of an operation that a callback held: the callback gives its verdict after all.
use Rattle.fm_operations.proofs.Words.{ℕ, true, not, length, map, refl, sym, ap, arith, PreHeld, PostHeld, Ascending, PreState, CtxId, last_visited, last_posted, settle_pre, settle_post}
use Rattle.fm_operations.proofs.Words.{FlowRecord, pre_leads, IsSound, answer_after}
use Rattle.std.proofs.Common.{◌≡◌, ◌+◌, ◌≤◌, ◌&&◌, ◌∙◌}
use Rattle.fm_operations.specs.Creates.{is_create, is_creating, is_unanswered}
use Rattle.fm_operations.specs.declared.entry.PostState.TheVariants as post
use Rattle.fm_operations.specs.Verdict.{is_counted}
use Rattle.fm_operations.specs.Steps.{pre_settled, post_settled}
use Rattle.fm_operations.specs.Counts.{carried_among, carried_by, taken_by, flight, leaves_by, leaves_at, post_leaves_by}
use Rattle.fm_operations.proofs.Settled.{the_open_pre, places_settled, settles_pre, settles_post, course_pre_settled, course_post_settled}
use Rattle.fm_operations.proofs.Counting.{flight_pre_settled, carried_pre_settled, flight_post_settled, owed_post_settled}
use Rattle.fm_operations.proofs.Soundness.{at_stage, sound_moved}
use Rattle.fm_operations.proofs.Placing.{placed_at, placed_settled}
use Rattle.fm_operations.proofs.Returns.{returned}
use Rattle.fm_operations.proofs.Follows.{Leaves, number_of, leaves_pre}
use Rattle.fm_operations.specs.Tallied.{left_pre}
use Rattle.fm_operations.proofs.Words.{Option, InstanceId}
use Rattle.fm_operations.specs.Counts.{leaves_at, leaves_by}
use Rattle.fm_operations.specs.Steps.{pre_settled, post_settled}
use Rattle.fm_operations.specs.declared.entry.PostState.TheVariants as post

-- ---- a preoperation

pub sound_pre_resumed : (state : PreState) (r : FlowRecord) → r.stage ≡ PreHeld → is_counted state ≡ true → IsSound r → IsSound (pre_settled state r)
sound_pre_resumed state r st counted h =
    let at = at_stage r PreHeld st h in
    let a = ap length (settles_pre r.entries state (the_open_pre PreHeld r.entries at.0 refl)).visits in
    let short : length (answer_after state r.answer).bytes ≤ 32768 = grind (arith, h.bytes) in
    sound_moved r (pre_leads state) (map (settle_pre state) r.entries) r.params r.kept (answer_after state r.answer) r.handle h (rw st refl)
    (course_pre_settled PreHeld r.entries state refl at.0) (at.1 ∙ sym (ap not (returned state counted).0)) h.params h.kept
    (omega (arith, a, at.2, (returned state counted).1))
    (placed_settled state r.entries (map (settle_pre state) r.entries) r.kept r.kept (omega arith) (places_settled r.entries state)
    (settles_pre r.entries state (the_open_pre PreHeld r.entries at.0 refl)).visits (placed_at r PreHeld st h)) short

pub pre_resumed_carries : (c : CtxId) (state : PreState) (r : FlowRecord) → r.stage ≡ PreHeld → IsSound r
    → carried_by c (pre_settled state r) ≡ carried_by c r + taken_by c state
pre_resumed_carries c state r st h = carried_pre_settled PreHeld r.entries state c refl (at_stage r PreHeld st h).0

pub pre_resumed_flies : (j : ℕ) (state : PreState) (r : FlowRecord) → r.stage ≡ PreHeld → IsSound r
    → flight j r ≡ flight j (pre_settled state r) + leaves_at j (last_visited r.entries) (leaves_by state)
pre_resumed_flies j state r st h = flight_pre_settled PreHeld r.entries state j refl (at_stage r PreHeld st h).0

-- ---- a postoperation

pub sound_post_resumed : (r : FlowRecord) → r.stage ≡ PostHeld → IsSound r → IsSound (post_settled post.Finished r)
sound_post_resumed r st h =
    let at = at_stage r PostHeld st h in
    sound_moved r Ascending (map (settle_post post.Finished) r.entries) r.params r.kept r.answer r.handle h (rw st refl)
    (course_post_settled PostHeld r.entries post.Finished refl at.0) at.1 h.params h.kept
    (omega (arith, ap length (settles_post r.entries post.Finished).visits, at.2)) tt h.bytes

pub post_resumed_carries : (c : CtxId) (r : FlowRecord) → r.stage ≡ PostHeld → IsSound r → carried_by c (post_settled post.Finished r) ≡ carried_by c r
post_resumed_carries c r st h = ap (carried_among c) (owed_post_settled PostHeld r.entries post.Finished refl (at_stage r PostHeld st h).0)

pub post_resumed_flies : (j : ℕ) (r : FlowRecord) → r.stage ≡ PostHeld → IsSound r
    → flight j r ≡ flight j (post_settled post.Finished r) + leaves_at j (last_posted r.entries) (post_leaves_by post.Finished)
post_resumed_flies j r st h = flight_post_settled PostHeld r.entries post.Finished j refl (at_stage r PostHeld st h).0

-- it doesn't answer a create
pub post_resumed_uncreated : (r s : FlowRecord) → r.stage ≡ PostHeld → s ≡ post_settled post.Finished r → is_creating s ≡ is_creating r
post_resumed_uncreated r s st is = ap is_creating is ∙ ap (λ stage. is_create r.operation && is_unanswered stage) (sym st)

-- ---- the number that is kept of its instance follows

pub resumed_pre_leaves : (state : PreState) (r : FlowRecord) (at : Option InstanceId) {s : FlowRecord} {gone : Option InstanceId}
    → r.stage ≡ PreHeld → IsSound r
    → number_of at ≡ last_visited r.entries → s ≡ pre_settled state r → gone ≡ left_pre state at → Leaves gone r s
resumed_pre_leaves state r at st sound last is goes j =
    let same = ap (λ l. leaves_at j l (leaves_by state)) (sym last) ∙ leaves_pre j state at ∙ ap (λ at. leaves_at j (number_of at) 1) (sym goes) in
    omega (arith, pre_resumed_flies j state r st sound, same, ap (flight j) is)

pub resumed_post_leaves : (r : FlowRecord) (at : Option InstanceId) {s : FlowRecord} → r.stage ≡ PostHeld → IsSound r → number_of at ≡ last_posted r.entries
    → s ≡ post_settled post.Finished r → Leaves at r s
resumed_post_leaves r at st sound last is j = omega (arith, post_resumed_flies j r st sound, ap (λ l. leaves_at j l 1) last, ap (flight j) is)
