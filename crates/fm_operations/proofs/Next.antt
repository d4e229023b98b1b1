-- What `next` does to an operation, and what each law makes of it.
use Rattle.fm_operations.proofs.Words.{ℕ, Bool, true, false, cond, List, [], length, Option, Some, None, Ok, Err, slice_get, refl, sym, ap, ap₂}
use Rattle.fm_operations.proofs.Words.{subst, arith, nat_tests, length-take, All-take, all_at, All-cons, All-head, All-tail, InstanceId, WorkerId}
use Rattle.fm_operations.proofs.Words.{Status, WrongStep, Params, Answer, Below, Stage, Descending, PreRunning, InBase, Ascending, PostRunning}
use Rattle.fm_operations.proofs.Words.{PreHeld, PostHeld, InDrain, Ask, Entry, Base, Drain, one, times, visited, owed, instances, ask_of, answers}
use Rattle.fm_operations.proofs.Words.{opens, drain_opens, FlowRecord, Turned, turn, pre_entry, post_entry, bare_ask, with_entry, with_visit, with_base, with_drain}
use Rattle.fm_operations.proofs.Words.{call_pre, call_base, call_post, give_post, unwound_to, unwound, descend, ascend, may_take, next_at, next_of}
use Rattle.fm_operations.proofs.Words.{MayLieBelow, bare_answer, left_answer, done_at, is_spent, IsSound, All, CtxId, FlowAction, and_parts, cases_Bool, inl, inr}
use Rattle.std.proofs.Common.{◌≡◌, ◌+◌, ◌<◌, ◌≤◌, ◌==◌, ◌∷◌, ◌++◌, ◌∙◌, IsTrue, Result}
use Rattle.fm_types.specs.declared.operation.Operation.{Operation}
use Rattle.fm_callback_data.specs.Params.{are_for, fit, is_within_limits}
use Rattle.fm_callback_data.specs.declared.verdict.Completion.{Completion}
use Rattle.fm_operations.specs.declared.action.Below.TheVariants as below
use Rattle.fm_operations.specs.declared.action.FlowAction.TheVariants as action
use Rattle.fm_operations.specs.declared.entry.PreState.TheVariants as pre
use Rattle.fm_operations.specs.declared.entry.PostState.TheVariants as post
use Rattle.fm_operations.specs.Counts.{carried_in, carried_among, carried_by, handed, opens_at, drain_opens_at, flight, enters}
use Rattle.fm_operations.proofs.Owed.{owed_push_none}
use Rattle.fm_operations.proofs.Course.{bare_ask_of, owed_visit, owed_answered, owed_first, course_visit, course_visit_ask, course_in_base, course_base}
use Rattle.fm_operations.proofs.Course.{course_post, course_drain, drains_push}
use Rattle.fm_operations.proofs.Counting.{opens_push}
use Rattle.fm_operations.proofs.Soundness.{Stays, stays_so, at_stage, sound_moved, sound_pushed}
use Rattle.fm_operations.proofs.Placing.{placed_visit}
use Rattle.fm_operations.proofs.Follows.{Leaves, number_of}
use Rattle.fm_operations.specs.Tallied.{entered}
use Rattle.fm_operations.specs.Counts.{enters, leaves_at}

-- ---- down

pub sound_call_pre : (worker : WorkerId) (i : InstanceId) (r : FlowRecord) (p : Params) → r.stage ≡ Descending
    → times i.0 (visited r.entries) ≡ 0 → length (visited r.entries) < 32 → IsSound r → IsSound ((call_pre worker i r (Some p)).after)
sound_call_pre worker i r p st fresh few h =
    sound_pushed r Descending PreRunning (pre_entry worker i pre.Running r) None r.answer r.handle st h (rw st refl)
    (course_visit r.entries worker i (length r.kept) (at_stage r Descending st h).0 fresh few)
    refl tt (omega arith) (placed_visit worker i pre.Running r (omega (arith, (at_stage r Descending st h).2))) h.bytes

pub sound_visit : (worker : WorkerId) (i : InstanceId) (completion : Completion) (r : FlowRecord) → r.stage ≡ Descending
    → times i.0 (visited r.entries) ≡ 0 → length (visited r.entries) < 32 → IsSound r
    → IsSound (with_visit worker i (pre.Asked completion) r)
sound_visit worker i completion r st fresh few h =
    sound_pushed r Descending Descending (pre_entry worker i (pre.Asked completion) r) r.params r.answer r.handle st h (rw st refl)
    (course_visit_ask r.entries worker i (length r.kept) (at_stage r Descending st h).0 fresh few completion)
    (at_stage r Descending st h).1 h.params (omega arith) tt h.bytes

pub sound_call_base : (r : FlowRecord) (p : Params) → r.stage ≡ Descending → IsSound r → IsSound ((call_base r (Some p)).after)
sound_call_base r p st h =
    sound_moved r InBase r.entries None r.kept r.answer r.handle h (rw st refl)
    (course_in_base r.entries (at_stage r Descending st h).0) refl tt h.kept (at_stage r Descending st h).2 tt h.bytes

pub sound_known : (status : Status) (r : FlowRecord) → r.stage ≡ Descending → IsSound r → IsSound (with_base (bare_answer status) r)
sound_known status r st h =
    sound_pushed r Descending Ascending (Base status 0) r.params (bare_answer status) r.handle st h (rw st refl)
    (course_base Descending r.entries status 0 refl refl (at_stage r Descending st h).0)
    (at_stage r Descending st h).1 h.params (omega arith) tt (omega arith)

-- ---- up

-- the parameters are put back to what they were
pub record Unwinds (r s : FlowRecord) : Type 0 where
  pub entries : s.entries ≡ r.entries
  pub stage : s.stage ≡ r.stage
  pub stays : Stays r s
  pub sound : IsSound r → IsSound s

pub unwinds_none : (r : FlowRecord) → Unwinds r r
unwinds_none r = record { entries = refl; stage = refl; stays = stays_so refl refl; sound = λ h. h }

pub unwinds : (place : ℕ) (r : FlowRecord) (m : Option Params) → slice_get r.kept place ≡ m → r.stage ≡ Ascending → Unwinds r (unwound_to place r m)
unwinds place r None at st = unwinds_none r
unwinds place r (Some p) at st = record {
  entries = refl;
  stage = refl;
  stays = stays_so refl refl;
  sound = λ h. record {
    course = h.course;
    here = rw st refl;
    params = all_at (λ q. fit r.operation r.path q ≡ true) r.kept place p h.kept at;
    kept = All-take (λ q. fit r.operation r.path q ≡ true) place r.kept h.kept;
    places = omega (arith, length-take place r.kept, h.places);
    placed = rw st tt;
    bytes = h.bytes;
    collected = h.collected;
  };
}

-- what a callback received is within the limits
pub kept_within : (r : FlowRecord) (place : ℕ) (p : Params) → IsSound r → slice_get r.kept place ≡ Some p → IsTrue (is_within_limits p)
kept_within r place p h at =
    let own = all_at (λ q. fit r.operation r.path q ≡ true) r.kept place p h.kept at in
    (and_parts (are_for r.operation r.path p) (is_within_limits p) own).1

left_short : (operation : Operation) (answer : Answer) → length answer.bytes ≤ 32768 → length (left_answer operation answer).bytes ≤ 32768
left_short operation answer h = grind (arith, h)

pub sound_give_post : (worker : WorkerId) (ask : Ask) (rest : List Ask) (r : FlowRecord) (p : Params) → r.stage ≡ Ascending
    → owed r.entries ≡ ask ∷ rest → may_take worker ask ≡ true → IsSound r → IsSound ((give_post worker ask r (Some p)).after)
sound_give_post worker ask rest r p st next may h =
    sound_pushed r Ascending PostRunning (post_entry worker ask.instance post.Running) None (left_answer r.operation r.answer) r.handle
    st h (ap₂ done_at st next)
    (course_post post.Running r.entries worker ask rest next may (at_stage r Ascending st h).0) refl tt (omega arith) tt (left_short r.operation r.answer h.bytes)

pub sound_passed_up : (worker : WorkerId) (ask : Ask) (rest : List Ask) (r : FlowRecord) → r.stage ≡ Ascending
    → owed r.entries ≡ ask ∷ rest → may_take worker ask ≡ true → IsSound r
    → IsSound (with_entry (post_entry worker ask.instance post.Finished) Ascending r)
sound_passed_up worker ask rest r st next may h =
    sound_pushed r Ascending Ascending (post_entry worker ask.instance post.Finished) r.params r.answer r.handle st h (ap₂ done_at st next)
    (course_post post.Finished r.entries worker ask rest next may (at_stage r Ascending st h).0) (at_stage r Ascending st h).1 h.params (omega arith) tt h.bytes

pub sound_drain : (ask : Ask) (rest : List Ask) (r : FlowRecord) → r.stage ≡ Ascending → owed r.entries ≡ ask ∷ rest → IsSound r
    → IsSound (with_drain ask.instance (InDrain ask.instance) r)
sound_drain ask rest r st next h =
    let c = (at_stage r Ascending st h).0 in
    sound_pushed r Ascending (InDrain ask.instance) (Drain (record { instance = ask.instance; is_running = true })) r.params r.answer
    r.handle st h (ap₂ done_at st next)
    (course_drain Ascending (InDrain ask.instance) r.entries ask.instance (owed_first Ascending r.entries ask rest c next) refl refl (λ opens before. opens) c)
    (at_stage r Ascending st h).1 h.params (omega arith) tt h.bytes

abbrev pub tail_of : List Ask → List Ask
tail_of [] = []
tail_of (ask ∷ asks) = asks

-- an instance at the head of those owed
pub head_of : (asks : List Ask) (ask : Ask) → slice_get asks 0 ≡ Some ask → asks ≡ ask ∷ tail_of asks
head_of [] ask is = cc
head_of (other ∷ asks) ask is = let e : other ≡ ask = cc in ap (λ a. a ∷ asks) e

-- ---- what the laws say of a step

-- the drain that `next` gives
abbrev pub drains_given : ℕ → Result FlowAction Status → ℕ
drains_given i (Ok (action.Drain j completion)) = one (j.0 == i)
drains_given i _ = 0

-- what is handed out was owed, with a fact on each of those owed
abbrev pub WasOwed : (Ask → Type 0) → Result FlowAction Status → Type 0
WasOwed P (Ok (action.Post i lent completion)) = (ask : Ask) × P ask × (ask.instance ≡ i) × (ask.completion ≡ completion)
WasOwed P (Ok (action.Drain i completion)) = (ask : Ask) × P ask × (ask.instance ≡ i) × (ask.completion ≡ completion)
WasOwed P _ = Unit {0}

pub record Owes (P : Ask → Type 0) (t : Turned) : Type 0 where
  pub owes : All P (owed t.after.entries)
  pub hands : WasOwed P t.reply

abbrev pub MayAsk : (Ask → Type 0) → WorkerId → Below → FlowRecord → Type 0
MayAsk P worker (below.Instance i false) r = P (bare_ask_of worker i (length r.kept))
MayAsk P worker _ r = Unit {0}

-- no operation comes to an instance but where it lies below
abbrev pub LiesApart : ℕ → Below → FlowRecord → Type 0
LiesApart i lies r = r.stage ≡ Descending → (j : InstanceId) (called : Bool) → lies ≡ below.Instance j called → (j.0 == i) ≡ false

-- references carried are those carried before, but for what is handed out, and so are the postoperations owed
pub record Owing (worker : WorkerId) (lies : Below) (r : FlowRecord) (t : Turned) : Type 1 where
  pub carries : (c : CtxId) → carried_by c r ≡ carried_by c t.after + handed c t.reply
  pub owes : (P : Ask → Type 0) → (r.stage ≡ Descending → MayAsk P worker lies r) → All P (owed r.entries) → Owes P t

-- an operation that was sound is so, and is in flight where it was and where it comes on the way down
pub record Laws (worker : WorkerId) (lies : Below) (r : FlowRecord) (t : Turned) : Type 1 where
  pub sound : IsSound t.after
  pub owing : Owing worker lies r t
  pub flies : (i : ℕ) → flight i t.after ≡ flight i r + enters i lies t.reply

pub record Did (worker : WorkerId) (lies : Below) (r : FlowRecord) (t : Turned) : Type 1 where
  pub stays : Stays r t.after
  pub drains : (i : ℕ) → drain_opens i t.after.entries ≡ drain_opens i r.entries + drains_given i t.reply
  pub comes : (i : ℕ) → LiesApart i lies r → enters i lies t.reply ≡ 0
  pub laws : (r.stage ≡ Descending → MayLieBelow lies r.entries) → IsSound r → Laws worker lies r t

-- ---- what it makes of those owed

-- they stay, and nothing is handed out
owing_same : {worker : WorkerId} {lies : Below} {r : FlowRecord} {t : Turned} → owed t.after.entries ≡ owed r.entries
    → ((c : CtxId) → handed c t.reply ≡ 0) → ((P : Ask → Type 0) → WasOwed P t.reply)
    → Owing worker lies r t
owing_same same none was = record {
  carries = λ c. omega (arith, ap (carried_among c) same, none c);
  owes =
      λ P may all. record { owes = subst (All P) (sym same) all; hands = was P };
}

-- the first is handed out
owing_first : {worker : WorkerId} {lies : Below} {r : FlowRecord} {t : Turned} (ask : Ask) (rest : List Ask)
    → owed r.entries ≡ ask ∷ rest → owed t.after.entries ≡ rest
    → ((c : CtxId) → handed c t.reply ≡ carried_in c ask.completion) → ((P : Ask → Type 0) → P ask → WasOwed P t.reply) → Owing worker lies r t
owing_first ask rest next left given was = record {
  carries = λ c. omega (arith, ap (carried_among c) next, ap (carried_among c) left, given c);
  owes = λ P may all. let all' = subst (All P) next all in record {
    owes = subst (All P) (sym left) (All-tail P ask rest all');
    hands =
        was P (All-head P ask rest all');
  };
}

-- ---- case by case

-- nothing is handed out, and no entry comes: an operation whose parameters were put back, and that is refused all the same, doesn't differ in what the laws look at
did_none : {worker : WorkerId} {lies : Below} {r : FlowRecord} (s : FlowRecord) (reply : Result FlowAction Status)
    → s.entries ≡ r.entries → Stays r s → (IsSound r → IsSound s)
    → ((c : CtxId) → handed c reply ≡ 0) → ((i : ℕ) → (drains_given i reply ≡ 0) × (enters i lies reply ≡ 0))
    → ((P : Ask → Type 0) → WasOwed P reply) → Did worker lies r (turn reply s)
did_none s reply same stays sound none nowhere was = record {
  stays = stays;
  drains = λ i. omega (arith, ap (drain_opens i) same, (nowhere i).0);
  comes = λ i apart. (nowhere i).1;
  laws = λ may h. record {
    sound = sound h;
    owing = owing_same (ap owed same) none was;
    flies = λ i. omega (arith, ap (λ es. opens i es + times i (instances (owed es))) same, (nowhere i).1);
  };
}

did_refused : {worker : WorkerId} {lies : Below} (r s : FlowRecord) → Unwinds r s → Did worker lies r (turn (Err WrongStep) s)
did_refused r s back = did_none s (Err WrongStep) back.entries back.stays back.sound (λ c. refl) (λ i. (refl, refl)) (λ P. tt)

-- one more entry
did_more : {worker : WorkerId} {lies : Below} {r : FlowRecord} (e : Entry) (s : FlowRecord) (reply : Result FlowAction Status)
    → s.entries ≡ r.entries ++ e ∷ [] → Stays r s
    → ((i : ℕ) → drain_opens_at i e ≡ drains_given i reply) → ((i : ℕ) → LiesApart i lies r → enters i lies reply ≡ 0)
    → ((r.stage ≡ Descending → MayLieBelow lies r.entries) → IsSound r → IsSound s × Owing worker lies r (turn reply s)
    × ((i : ℕ) → opens_at i e + times i (instances (owed s.entries)) ≡ times i (instances (owed r.entries)) + enters i lies reply))
    → Did worker lies r (turn reply s)
did_more {r = r} e s reply pushed stays given comes laws = record {
  stays = stays;
  drains = λ i. omega (arith, ap (drain_opens i) pushed ∙ drains_push i r.entries e, given i);
  comes = comes;
  laws = λ may h. let l = laws may h in record { sound = l.0; owing = l.1; flies = λ i. omega (arith, ap (opens i) pushed ∙ opens_push i r.entries e, l.2 i) };
}

did_call : {worker : WorkerId} (i : InstanceId) (r : FlowRecord) (m : Option Params) → r.stage ≡ Descending
    → Did worker (below.Instance i true) r (call_pre worker i r m)
did_call i r None st = did_refused r r (unwinds_none r)
did_call {worker} i r (Some p) st =
    let e = pre_entry worker i pre.Running r in let o = owed_push_none r.entries e refl (λ j. refl) in
    did_more e (call_pre worker i r (Some p)).after (call_pre worker i r (Some p)).reply refl (stays_so refl refl) (λ j. refl)
    (λ j apart. ap one (apart st i true refl))
    (λ may h. (
      sound_call_pre worker i r p st (may st).0 (may st).1 h,
      owing_same o (λ c. refl) (λ P. tt),
      λ j. grind (arith, nat_tests, ap (λ xs. times j (instances xs)) o),
    ))

abbrev bare_completion : Completion
bare_completion = record { number = 0; context = None }

did_pass : {worker : WorkerId} (i : InstanceId) (r : FlowRecord) → r.stage ≡ Descending
    → Did worker (below.Instance i false) r (turn (Ok action.Moved) (with_visit worker i bare_ask r))
did_pass {worker} i r st =
    did_more (pre_entry worker i bare_ask r) (with_visit worker i bare_ask r) (Ok action.Moved) refl (stays_so refl refl) (λ j. refl)
    (λ j apart. ap one (apart st i false refl))
    (λ may h.
    let o = owed_visit r.entries worker i bare_completion (length r.kept) (at_stage r Descending st h).0 (may st).0 in (
      sound_visit worker i bare_completion r st (may st).0 (may st).1 h,
      record {
        carries = λ c. omega (arith, ap (carried_among c) o);
        owes = λ P ask all. record {
          owes = subst (All P) (sym o) (All-cons P (bare_ask_of worker i (length r.kept)) (owed r.entries)
              (ask st) all);
          hands = tt;
        };
      },
      λ j. grind (arith, nat_tests, ap (λ xs. times j (instances xs)) o),
    ))

did_base : {worker : WorkerId} (r : FlowRecord) (m : Option Params) → r.stage ≡ Descending → Did worker below.Call r (call_base r m)
did_base r None st = did_refused r r (unwinds_none r)
did_base r (Some p) st =
    did_none (call_base r (Some p)).after (call_base r (Some p)).reply refl (stays_so refl refl) (sound_call_base r p st) (λ c. refl)
    (λ i. (refl, refl)) (λ P. tt)

did_know : {worker : WorkerId} (status : Status) (r : FlowRecord) → r.stage ≡ Descending
    → Did worker (below.Known status) r (turn (Ok action.Moved) (with_base (bare_answer status) r))
did_know status r st =
    let o = owed_push_none r.entries (Base status 0) refl (λ j. refl) in
    did_more (Base status 0) (with_base (bare_answer status) r) (Ok action.Moved) refl (stays_so refl refl) (λ j. refl) (λ j apart. refl)
    (λ may h. (sound_known status r st h, owing_same o (λ c. refl) (λ P. tt), λ j. omega (arith, ap (λ xs. times j (instances xs)) o)))

did_down : (worker : WorkerId) (lies : Below) (r : FlowRecord) → r.stage ≡ Descending → Did worker lies r (descend worker lies r)
did_down worker (below.Instance i true) r st = did_call i r r.params st
did_down worker (below.Instance i false) r st = did_pass i r st
did_down worker below.Call r st = did_base r r.params st
did_down worker (below.Known status) r st = did_know status r st

-- an answer to the one that is owed next leaves the others
pub answered_owed : {r : FlowRecord} (ask : Ask) (rest : List Ask) (s : FlowRecord) (e : Entry) → r.stage ≡ Ascending
    → owed r.entries ≡ ask ∷ rest → Unwinds r s → ask_of e ≡ None
    → ((j : ℕ) → answers j e ≡ (ask.instance.0 == j)) → IsSound r → owed (s.entries ++ e ∷ []) ≡ rest
answered_owed ask rest s e st next back asks answers' h =
    owed_answered Ascending s.entries e ask rest (at_stage s Ascending (back.stage ∙ st) (back.sound h)).0 (ap owed back.entries
    ∙ next) asks answers'

module _ {worker : WorkerId} {lies : Below} (ask : Ask) (rest : List Ask) (r : FlowRecord) (st : r.stage ≡ Ascending) (next : owed r.entries ≡ ask ∷ rest) where
  did_post : (s : FlowRecord) (m : Option Params) → may_take worker ask ≡ true → Unwinds r s → Did worker lies r (give_post worker ask s m)
  did_post s None takes back = did_refused r s back
  did_post s (Some p) takes back =
      let e = post_entry worker ask.instance post.Running in let t = give_post worker ask s (Some p) in
      did_more e t.after t.reply (ap (λ es. es ++ e ∷ []) back.entries) (stays_so back.stays.number back.stays.collected) (λ j. refl) (λ j apart. refl)
      (λ may h.
      let o = answered_owed ask rest s e st next back refl (λ j. refl) h in (
        sound_give_post worker ask rest s p (back.stage ∙ st) (ap owed back.entries ∙ next) takes (back.sound h),
        owing_first ask rest next o (λ c. refl) (λ P was. (ask, was, refl, refl)),
        λ j. grind (arith, nat_tests, ap (λ xs. times j (instances xs)) next, ap (λ xs. times j (instances xs)) o),
      ))

  did_drain : Did worker lies r (turn (Ok (action.Drain ask.instance ask.completion)) (with_drain ask.instance (InDrain ask.instance) r))
  did_drain =
      let e = Drain (record { instance = ask.instance; is_running = true }) in
      did_more e (with_drain ask.instance (InDrain ask.instance) r) (Ok (action.Drain ask.instance ask.completion)) refl
      (stays_so refl refl) (λ j. grind arith) (λ j apart. refl)
      (λ may h.
      let o = answered_owed ask rest r e st next (unwinds_none r) refl (λ j. refl) h in (
        sound_drain ask rest r st next h,
        owing_first ask rest next o (λ c. refl) (λ P was. (ask, was, refl, refl)),
        λ j. grind (arith, nat_tests, ap (λ xs. times j (instances xs)) next, ap (λ xs. times j (instances xs)) o),
      ))

  did_take : (b : Bool) → may_take worker ask ≡ b → Did worker lies r (cond b (call_post worker ask r) (turn (Err WrongStep) r))
  did_take false takes = did_refused r r (unwinds_none r)
  did_take true takes = let s = unwound ask.place r in did_post s s.params takes (unwinds ask.place r (slice_get r.kept ask.place) refl st)

did_up : (worker : WorkerId) (lies : Below) (stops : Bool) (r : FlowRecord) (m : Option Ask) → r.stage ≡ Ascending
    → slice_get (owed r.entries) 0 ≡ m → Did worker lies r (ascend worker stops r m)
did_up worker lies stops r None st is = did_none r (Ok action.Done) refl (stays_so refl refl) (λ h. h) (λ c. refl) (λ i. (refl, refl)) (λ P. tt)
did_up worker lies true r (Some ask) st is = did_drain ask (tail_of (owed r.entries)) r st (head_of (owed r.entries) ask is)
did_up worker lies false r (Some ask) st is = did_take ask (tail_of (owed r.entries)) r st (head_of (owed r.entries) ask is) (may_take worker ask) refl

did_held : {worker : WorkerId} {lies : Below} (r : FlowRecord) → Did worker lies r (turn (Ok action.Held) r)
did_held r = did_none r (Ok action.Held) refl (stays_so refl refl) (λ h. h) (λ c. refl) (λ i. (refl, refl)) (λ P. tt)

did_at : (worker : WorkerId) (lies : Below) (stops : Bool) (r : FlowRecord) (stage : Stage) → r.stage ≡ stage
    → Did worker lies r (next_at worker lies stops r stage)
did_at worker lies stops r Descending st = did_down worker lies r st
did_at worker lies stops r Ascending st = did_up worker lies stops r (slice_get (owed r.entries) 0) st refl
did_at worker lies stops r PreHeld st = did_held r
did_at worker lies stops r PostHeld st = did_held r
did_at worker lies stops r stage st = did_refused r r (unwinds_none r)

pub did : (worker : WorkerId) (lies : Below) (stops : Bool) (r : FlowRecord) → Did worker lies r (next_of worker lies stops r)
did worker lies stops r = elim r.collected as (λ b. Did worker lies r (cond b (turn (Err WrongStep) r) (next_at worker lies stops r r.stage))) [
  | true ↦ did_refused r r (unwinds_none r)
  | false ↦ did_at worker lies stops r r.stage refl
]

-- ---- law by law

pub next_stays : (k : WorkerId) (lies : Below) (stops : Bool) (r : FlowRecord) → Stays r (next_of k lies stops r).after
next_stays k lies stops r = (did k lies stops r).stays

-- one whose answer was handed out is left as it is
pub next_needed : (k : WorkerId) (lies : Below) (stops : Bool) (r : FlowRecord) → is_spent r ≡ false → is_spent (next_of k lies stops r).after ≡ false
next_needed k lies stops r needed = elim (cases_Bool r.collected) [
  | inl out ↦
      let same : (next_of k lies stops r).after ≡ r = ap (λ b. (cond b (turn (Err WrongStep) r) (next_at k lies stops r r.stage)).after) out in
      ap is_spent same ∙ needed
  | inr kept ↦ let same = (next_stays k lies stops r).collected ∙ kept in grind (arith, same)
]

pub next_drains : (i : ℕ) (k : WorkerId) (lies : Below) (stops : Bool) (r : FlowRecord)
    → drain_opens i (next_of k lies stops r).after.entries ≡ drain_opens i r.entries + drains_given i (next_of k lies stops r).reply
next_drains i k lies stops r = (did k lies stops r).drains i

pub next_enters : (i : ℕ) (worker : WorkerId) (lies : Below) (stops : Bool) (r : FlowRecord) → LiesApart i lies r
    → enters i lies (next_of worker lies stops r).reply ≡ 0
next_enters i worker lies stops r = (did worker lies stops r).comes i

pub sound_next : (k : WorkerId) (lies : Below) (stops : Bool) (r : FlowRecord) → IsSound r
    → (r.stage ≡ Descending → MayLieBelow lies r.entries) → IsSound (next_of k lies stops r).after
sound_next k lies stops r h may = ((did k lies stops r).laws may h).sound

pub next_carries : (c : CtxId) (worker : WorkerId) (lies : Below) (stops : Bool) (r : FlowRecord)
    → (r.stage ≡ Descending → MayLieBelow lies r.entries) → IsSound r
    → carried_by c r ≡ carried_by c (next_of worker lies stops r).after + handed c (next_of worker lies stops r).reply
next_carries c worker lies stops r may h = ((did worker lies stops r).laws may h).owing.carries c

pub next_flies : (j : ℕ) (worker : WorkerId) (lies : Below) (stops : Bool) (r : FlowRecord) → (r.stage ≡ Descending → MayLieBelow lies r.entries) → IsSound r
    → flight j (next_of worker lies stops r).after ≡ flight j r + enters j lies (next_of worker lies stops r).reply
next_flies j worker lies stops r may h = ((did worker lies stops r).laws may h).flies j

pub next_owes : (P : Ask → Type 0) (worker : WorkerId) (lies : Below) (stops : Bool) (r : FlowRecord)
    → (r.stage ≡ Descending → MayLieBelow lies r.entries × MayAsk P worker lies r) → IsSound r → All P (owed r.entries) → Owes P (next_of worker lies stops r)
next_owes P worker lies stops r may h = ((did worker lies stops r).laws (λ e. (may e).0) h).owing.owes P (λ e. (may e).1)

enters_there : (j : ℕ) (lies : Below) (reply : Result FlowAction Status) → enters j lies reply ≡ leaves_at j (number_of (entered lies reply)) 1
enters_there j lies (Ok (action.Pre i lent)) = refl
enters_there j (below.Instance i called) (Ok action.Moved) = refl
enters_there j lies reply = grind arith

-- `next` brings an operation where its answer says
pub next_comes : (worker : WorkerId) (lies : Below) (stops : Bool) (r : FlowRecord) {s : FlowRecord} {reply : Result FlowAction Status}
    {at : Option InstanceId} → MayLieBelow lies r.entries → IsSound r
    → s ≡ (next_of worker lies stops r).after → reply ≡ (next_of worker lies stops r).reply → at ≡ entered lies reply → Leaves at s r
next_comes worker lies stops r {s} {reply} may sound is told comes j =
    let here = enters_there j lies reply ∙ ap (λ at. leaves_at j (number_of at) 1) (sym comes) in
    omega (arith, ap (flight j) is, ap (enters j lies) told, here, next_flies j worker lies stops r (λ e. may) sound)
