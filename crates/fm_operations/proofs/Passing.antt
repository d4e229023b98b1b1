-- An operation passes an instance in one step: what that makes of it is what `next` and the callback's return make of it, one after the other.
use Rattle.fm_operations.proofs.Words.{ℕ, true, false, cond, List, [], length, map, Option, Some, None, refl, sym, ap, ap₂, arith, nat_tests, slice_get, append-nil, map-append}
use Rattle.fm_operations.proofs.Words.{InstanceId, WorkerId, Params, Answer, Stage, Descending, Ascending, Ask, Entry, one, times, visited, owed, instances}
use Rattle.fm_operations.proofs.Words.{FlowRecord, call_pre, give_post, with_entry, with_visit, unwound, unwound_to, pre_entry, post_entry, may_take, done_at, is_done}
use Rattle.fm_operations.proofs.Words.{settle_pre, settle_post, is_open, pre_returned_of, post_returned_of, lent_answer, left_answer, returned_answer, is_creating}
use Rattle.fm_operations.proofs.Words.{IsCourse, IsSound, way_of, answered_data}
use Rattle.std.proofs.Common.{◌≡◌, ◌&&◌, ◌∷◌, ◌++◌, ◌∙◌}
use Rattle.fm_types.specs.declared.operation.Operation.{Operation}
use Rattle.fm_callback_data.specs.Data.{fresh_data}
use Rattle.fm_callback_data.specs.declared.verdict.Completion.{Completion}
use Rattle.fm_callback_data.specs.declared.verdict.PostVerdict.TheVariants as verdict
use Rattle.fm_operations.specs.declared.entry.PreState.TheVariants as pre
use Rattle.fm_operations.specs.declared.entry.PostState.TheVariants as post
use Rattle.fm_operations.specs.Counts.{flight, opens, opens_at}
use Rattle.fm_operations.specs.Creates.{is_create}
use Rattle.fm_operations.specs.Steps.{passed_up, stands}
use Rattle.fm_operations.specs.Table.{OwesNext, StandsAt}
use Rattle.fm_operations.proofs.Walks.{Settling, is_callback, settling_pre, settling_post}
use Rattle.fm_operations.proofs.Course.{owed_visit}
use Rattle.fm_operations.proofs.Settled.{walks_to}
use Rattle.fm_operations.proofs.Counting.{opens_push}
use Rattle.fm_operations.proofs.Noted.{nothing_due, open_count}
use Rattle.fm_operations.proofs.Soundness.{Stays, stays_so, at_stage}
use Rattle.fm_operations.proofs.Next.{Unwinds, unwinds, head_of, tail_of, answered_owed, sound_passed_up}
use Rattle.fm_operations.proofs.Follows.{Leaves}

-- ---- on the way down

pub visit_comes : (worker : WorkerId) (i : InstanceId) (completion : Completion) (r : FlowRecord) {s : FlowRecord}
    → r.stage ≡ Descending → times i.0 (visited r.entries) ≡ 0 → IsSound r
    → s ≡ with_visit worker i (pre.Asked completion) r → Leaves (Some i) s r
visit_comes worker i completion r st fresh sound is j =
    let e = pre_entry worker i (pre.Asked completion) r in
    let here : opens_at j e ≡ 0 = grind (arith, nat_tests) in
    let o = owed_visit r.entries worker i completion (length r.kept) (at_stage r Descending st sound).0 fresh in
    omega (arith, ap (flight j) is, opens_push j r.entries e, here, ap (λ xs. times j (instances xs)) o)

pub visit_uncreated : (worker : WorkerId) (i : InstanceId) (completion : Completion) (r s : FlowRecord) → r.stage ≡ Descending
    → s ≡ with_visit worker i (pre.Asked completion) r → is_creating s ≡ is_creating r
visit_uncreated worker i completion r s st is = ap is_creating is ∙ sym (rw st refl)

-- ---- on the way up

pub owing_stands : (ask : Ask) (m : Option FlowRecord) → OwesNext ask m → StandsAt Ascending m
owing_stands ask None h = h
owing_stands ask (Some r) h = h.0

unwound_stays : (place : ℕ) (r : FlowRecord) (m : Option Params) → Stays r (unwound_to place r m)
unwound_stays place r None = stays_so refl refl
unwound_stays place r (Some p) = stays_so refl refl

pub passed_stays : (worker : WorkerId) (ask : Ask) (r : FlowRecord) → Stays r (passed_up worker ask r)
passed_stays worker ask r = let u = unwound_stays ask.place r (slice_get r.kept ask.place) in stays_so u.number u.collected

and_false : (b : _) → (b && false) ≡ false
and_false b = grind arith

pub up_uncreated : (r s : FlowRecord) → r.stage ≡ Ascending → s.stage ≡ Ascending → is_creating s ≡ is_creating r
up_uncreated r s st su =
    let before : is_creating r ≡ false = rw st (and_false (is_create r.operation)) in
    let after' : is_creating s ≡ false = rw su (and_false (is_create s.operation)) in
    after' ∙ sym before

module _ (worker : WorkerId) (ask : Ask) (r : FlowRecord) (st : r.stage ≡ Ascending) (is : slice_get (owed r.entries) 0 ≡ Some ask) where
  back : Unwinds r (unwound ask.place r)
  back = unwinds ask.place r (slice_get r.kept ask.place) refl st

  next : owed r.entries ≡ ask ∷ tail_of (owed r.entries)
  next = head_of (owed r.entries) ask is

  pub undone : is_done r ≡ false
  undone = ap₂ done_at st next

  pub sound_up : may_take worker ask ≡ true → IsSound r → IsSound (passed_up worker ask r)
  sound_up may h = sound_passed_up worker ask (tail_of (owed r.entries)) (unwound ask.place r) (back.stage ∙ st) (ap owed back.entries
      ∙ next) may (back.sound h)

  pub passes_up : {s : FlowRecord} → IsSound r → s ≡ passed_up worker ask r → Leaves (Some ask.instance) r s
  passes_up sound made j =
      let u = unwound ask.place r in
      let e = post_entry worker ask.instance post.Finished in
      let here : opens_at j e ≡ 0 = grind (arith, nat_tests) in
      let o = answered_owed ask (tail_of (owed r.entries)) u e st next back refl (λ k. refl) sound in
      omega (
        arith,
        ap (flight j) made,
        opens_push j u.entries e,
        ap (opens j) back.entries,
        here,
        ap (λ xs. times j (instances xs)) o,
        ap (λ xs. times j (instances xs)) next,
      )

-- ---- in one step as in two

-- where no callback runs, settling changes nothing
settled_calm : (s : Stage) (es : List Entry) (f : Entry → Entry) → IsCourse s es → is_callback s ≡ false → way_of s ≡ s → Settling f → map f es ≡ es
settled_calm s es f c calm way settles = nothing_due is_open f es settles (let n = open_count Descending es s (walks_to s es c way) in
    let k = ap one calm in omega (arith, n, k))

pub down_whole : (worker : WorkerId) (i : InstanceId) (completion : Completion) (r : FlowRecord) (p : Params) → r.stage ≡ Descending
    → r.params ≡ Some p → IsSound r
    → pre_returned_of (pre.Asked completion) (fresh_data p) (call_pre worker i r (Some p)).after ≡ with_visit worker i (pre.Asked completion) r
down_whole worker i completion r p st has h =
    let asked = pre.Asked completion in
    let entries : map (settle_pre asked) (r.entries ++ pre_entry worker i pre.Running r ∷ []) ≡ r.entries ++ pre_entry worker i asked r ∷ [] =
    map-append (settle_pre asked) r.entries (pre_entry worker i pre.Running r ∷ [])
    ∙ ap (λ es. es ++ pre_entry worker i asked r ∷ []) (settled_calm Descending r.entries (settle_pre asked)
    (at_stage r Descending st h).0 refl refl (settling_pre asked)) in
    let kept = append-nil r.kept in
    cc

-- the answer that a postoperation is given and gives back is the one that it found
answer_back : (operation : Operation) (answer : Answer) (p : Params)
    → returned_answer operation (left_answer operation answer) (answered_data p (lent_answer operation answer)) ≡ answer
answer_back operation answer p = by_test (stands operation)
  where
    by_test : (b : _) → cond b (cond b answer (record answer { bytes = [] })) (record {
      status = (cond b (record answer { bytes = [] }) answer).status;
      information = (cond b (record answer { bytes = [] }) answer).information;
      bytes = (cond b (record answer { bytes = [] }) answer).bytes;
    }) ≡ answer
    by_test true = refl
    by_test false = refl

pub up_whole : (worker : WorkerId) (ask : Ask) (r : FlowRecord) (p : Params) → r.stage ≡ Ascending → r.params ≡ Some p → IsSound r
    → post_returned_of verdict.Finished (answered_data p (lent_answer r.operation r.answer)) (give_post worker ask r (Some p)).after
    ≡ with_entry (post_entry worker ask.instance post.Finished) Ascending r
up_whole worker ask r p st has h =
    let e = post_entry worker ask.instance post.Finished in
    let entries : map (settle_post post.Finished) (r.entries ++ post_entry worker ask.instance post.Running ∷ []) ≡ r.entries ++ e ∷ [] =
    map-append (settle_post post.Finished) r.entries (post_entry worker ask.instance post.Running ∷ [])
    ∙ ap (λ es. es ++ e ∷ []) (settled_calm Ascending r.entries (settle_post post.Finished) (at_stage r Ascending st h).0 refl refl
    (settling_post post.Finished)) in
    let answer = answer_back r.operation r.answer p in
    cc
