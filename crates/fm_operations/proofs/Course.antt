-- The laws of entries are kept by each step.
use Rattle.fm_operations.proofs.Words.{ℕ, Bool, true, false, not, List, [], length, reverse, filter, Option, Some, None, option_to_list}
use Rattle.fm_operations.proofs.Words.{refl, sym, ap, arith, append-nil, length-append, nat_tests, Stage, common_steps}
use Rattle.fm_operations.proofs.Words.{Descending, PreRunning, InBase, Ascending, PostState, Status, InstanceId, WorkerId}
use Rattle.fm_operations.proofs.Words.{post_leads, drain_opens, Ask, Entry, Pre, Base, Drain, one, times, ask_of, is_drained, is_answered}
use Rattle.fm_operations.proofs.Words.{visited, asked, posted, owed, instances, without, walk, way_of, answer_count, IsCourse, answers, visit_of}
use Rattle.fm_operations.proofs.Words.{post_of, post_entry, ⊤, filter-append, filter_agree, undrained, drains, after, slack, list_any}
use Rattle.fm_operations.proofs.Words.{HasItsDrain, MadeAsAsked, All, All-nil, All-push, ap₂, subst, may_take}
use Rattle.std.proofs.Common.{◌≡◌, ◌+◌, ◌*◌, ◌<◌, ◌≤◌, ◌==◌, ◌&&◌, ◌∷◌, ◌++◌, ◌∙◌, append_assoc}
use Rattle.fm_callback_data.specs.declared.verdict.Completion.{Completion}
use Rattle.fm_operations.specs.declared.entry.PreState.TheVariants as pre
use Rattle.fm_operations.specs.declared.entry.PostState.TheVariants as post
use Rattle.fm_operations.specs.Counts.{drain_opens_at}
use Rattle.fm_operations.proofs.Owed.{without_head, others, times-append, times_instances-append, instances_without, length_without, others_none}
use Rattle.fm_operations.proofs.Owed.{others_once, filter_map-push, answer_count_push, left, left_push_ask, left_push_answer, left_push_none}
use Rattle.fm_operations.proofs.Owed.{unanswered, not_drained}
use Rattle.fm_operations.proofs.Synchronized.{none_made, made_next}
use Rattle.fm_operations.proofs.Walks.{walk_push, no_posts}

-- ---- counts of instances

apart_more : (i j : ℕ) (js : List ℕ) → times j js ≡ 0 → times i js ≤ 1 → times i js + times i (j ∷ []) ≤ 1
apart_more i j js fresh a = grind (arith, nat_tests)

-- those who asked were visited
pub asked_among : (i : ℕ) (es : List Entry) → times i (instances (asked es)) ≤ times i (visited es)
asked_among i [] = omega arith
asked_among i (e ∷ es) = grind (arith, nat_tests, asked_among i es)

-- an instance that was visited on the way up was answered
pub posted_among : (i : ℕ) (es : List Entry) → times i (posted es) ≤ answer_count i es
posted_among i [] = omega arith
posted_among i (e ∷ es) = grind (arith, nat_tests, posted_among i es)

-- an instance that wasn't visited was neither answered nor drained
pub unvisited : (s : Stage) (es : List Entry) (i : ℕ) → IsCourse s es → times i (visited es) ≡ 0 → answer_count i es ≡ 0
unvisited s es i h none = omega (arith, asked_among i es, h.once i, none)

-- what a visit asks for, and what an instance does that is passed without a call
abbrev pub ask_from : WorkerId → InstanceId → Completion → ℕ → Ask
ask_from worker i completion place = record { instance = i; worker = worker; completion = completion; is_synchronized = false; place = place }

abbrev pub bare_ask_of : WorkerId → InstanceId → ℕ → Ask
bare_ask_of worker i place = ask_from worker i (record { number = 0; context = None }) place

pub owed_visit : (es : List Entry) (worker : WorkerId) (i : InstanceId) (completion : Completion) (place : ℕ) → IsCourse Descending es
    → times i.0 (visited es) ≡ 0
    → owed (es ++ Pre (record { instance = i; worker = worker; state = pre.Asked completion; place = place }) ∷ [])
    ≡ ask_from worker i completion place ∷ owed es
owed_visit es worker i completion place c fresh =
    left_push_ask answers es (Pre (record { instance = i; worker = worker; state = pre.Asked completion; place = place }))
    (ask_from worker i completion place) refl (λ j. refl) (unanswered i.0 es (unvisited Descending es i.0 c fresh))

-- ---- entries that were settled

pub record Settles (es fs : List Entry) (o : Option Ask) : Type 0 where
  pub asks : asked fs ≡ asked es ++ option_to_list o
  pub visits : visited fs ≡ visited es
  pub posts : posted fs ≡ posted es
  pub answered : (i : ℕ) → is_answered fs i ≡ is_answered es i
  pub drained : (i : ℕ) → is_drained fs i ≡ is_drained es i
  pub counts : (i : ℕ) → answer_count i fs ≡ answer_count i es
  pub len : length fs ≡ length es

-- a new ask comes on the way down, of an instance that had no answer
abbrev pub IsFresh : List Entry → Option Ask → Type 0
IsFresh es None = ⊤
IsFresh es (Some ask) = (answer_count ask.instance.0 es ≡ 0) × (posted es ≡ [])

reverse_more : (xs : List Ask) (o : Option Ask) → reverse (xs ++ option_to_list o) ≡ option_to_list o ++ reverse xs
reverse_more xs o = grind (arith, append-nil xs, common_steps)

left_settled : (test : ℕ → Entry → Bool) (es fs : List Entry) (o : Option Ask) → ((i : ℕ) → answer_count i es ≡ 0 → list_any (test i) es ≡ false)
    → asked fs ≡ asked es ++ option_to_list o → ((i : ℕ) → list_any (test i) fs ≡ list_any (test i) es) → IsFresh es o
    → left test fs ≡ option_to_list o ++ left test es
left_settled test es fs o unseen asks same fresh =
    filter_agree _ _ (λ ask. ap not (same ask.instance.0)) (reverse (asked fs))
    ∙ ap (λ xs. filter (λ ask. not (list_any (test ask.instance.0) es)) xs) (ap reverse asks ∙ reverse_more (asked es) o)
    ∙ filter-append (λ ask. not (list_any (test ask.instance.0) es)) (option_to_list o) (reverse (asked es)) ∙ ap (λ xs. xs ++ left test es) (by_ask o fresh)
  where
    by_ask : (o : Option Ask) → IsFresh es o → filter (λ ask. not (list_any (test ask.instance.0) es)) (option_to_list o) ≡ option_to_list o
    by_ask None fresh = refl
    by_ask (Some ask) fresh = let h = unseen ask.instance.0 fresh.0 in rw h refl

pub owed_settled : (es fs : List Entry) (o : Option Ask) → Settles es fs o → IsFresh es o → owed fs ≡ option_to_list o ++ owed es
owed_settled es fs o h = left_settled answers es fs o (λ i. unanswered i es) h.asks h.answered

settled_ascent : (es fs : List Entry) (o : Option Ask) → Settles es fs o → IsFresh es o
    → posted es ++ instances (owed es) ≡ instances (undrained es) → posted fs ++ instances (owed fs) ≡ instances (undrained fs)
settled_ascent es fs o h fresh ascent =
    rw (owed_settled es fs o h fresh, left_settled drains es fs o (λ i. not_drained i es) h.asks h.drained fresh, h.posts) (by_ask o fresh)
  where
    by_ask : (o : Option Ask) → IsFresh es o → posted es ++ instances (option_to_list o ++ owed es) ≡ instances (option_to_list o ++ undrained es)
    by_ask None fresh = ascent
    by_ask (Some ask) fresh = let none = fresh.1 in rw none (ap (λ xs. ask.instance.0 ∷ xs) (rw none at ascent))

pub course_settled : (s t : Stage) (es fs : List Entry) (o : Option Ask) → Settles es fs o → IsCourse s es → IsFresh es o
    → walk Descending fs ≡ Some (way_of t) → length (option_to_list o) + slack t ≤ slack s → All (MadeAsAsked (asked fs)) fs
    → HasItsDrain t fs → IsCourse t fs
course_settled s t es fs o h c fresh w room made drain =
    let owes = owed_settled es fs o h fresh in record {
      order = w;
      apart = λ i. omega (arith, ap (times i) h.visits, c.apart i);
      once = λ i.
          let b = ap (λ xs. times i (instances xs)) owes ∙ times_instances-append i (option_to_list o) (owed es) in
          let e = ap (λ xs. times i (instances xs)) h.asks ∙ times_instances-append i (asked es) (option_to_list o) in
          omega (arith, h.counts i, c.once i, b, e);
      ascent = settled_ascent es fs o h fresh c.ascent;
      synchronized = made;
      few = omega (arith, ap length h.visits, c.few);
      room = omega (arith, ap length h.visits, c.room, h.len, ap length owes ∙ length-append (option_to_list o) (owed es));
      drain = drain;
    }

-- ---- one more entry

-- on the way down
none_made_push : (es : List Entry) (e : Entry) → posted es ≡ [] → post_of e ≡ None → All (MadeAsAsked (asked (es ++ e ∷ []))) (es ++ e ∷ [])
none_made_push es e none unposted = none_made (asked (es ++ e ∷ [])) (es ++ e ∷ []) (filter_map-push post_of es e
    ∙ ap₂ (λ xs o. xs ++ option_to_list o) none unposted)

pub course_start : IsCourse Descending []
course_start = record {
  order = refl;
  apart = λ i. omega arith;
  once = λ i. refl;
  ascent = refl;
  synchronized =
      All-nil (MadeAsAsked []);
  few = omega arith;
  room = omega arith;
  drain = tt;
}

-- one more entry at a stage that allows it
course_push : (s t : Stage) (es : List Entry) (e : Entry) → IsCourse s es → after (way_of s) e ≡ Some (way_of t)
    → ((i : ℕ) → times i (visited es) + times i (option_to_list (visit_of e)) ≤ 1)
    → ((i : ℕ) → one (answers i e) + times i (instances (owed (es ++ e ∷ []))) ≡ times i (instances (owed es)) + times i
    (instances (option_to_list (ask_of e))))
    → posted es ++ (option_to_list (post_of e) ++ instances (owed (es ++ e ∷ []))) ≡ instances (undrained (es ++ e ∷ []))
    → length (visited es) + length (option_to_list (visit_of e)) ≤ 32
    → length (owed (es ++ e ∷ [])) + slack t + 1 ≤ length (owed es) + slack s + 2 * length (option_to_list (visit_of e))
    → All (MadeAsAsked (asked (es ++ e ∷ []))) (es ++ e ∷ []) → HasItsDrain t (es ++ e ∷ []) → IsCourse t (es ++ e ∷ [])
course_push s t es e c comes apart once ascent few room made drain =
    let v = filter_map-push visit_of es e in
    let lv = ap length v ∙ length-append (visited es) (option_to_list (visit_of e)) in
    record {
      order = walk_push Descending es e (way_of s) (way_of t) c.order comes;
      apart = λ i. omega (arith, ap (times i) v ∙ times-append i (visited es) (option_to_list (visit_of e)), apart i);
      once = λ i.
          let q = ap (λ xs. times i (instances xs)) (filter_map-push ask_of es e) ∙ times_instances-append i (asked es) (option_to_list (ask_of e)) in
          omega (arith, answer_count_push i es e, q, c.once i, once i);
      ascent = rw (filter_map-push post_of es e, append_assoc) ascent;
      synchronized = made;
      few = omega (arith, lv, few);
      room = omega (arith, lv, length-append es (e ∷ []), c.room, few, room);
      drain = drain;
    }

-- a visit
module _ (es : List Entry) (worker : WorkerId) (i : InstanceId) (place : ℕ) (c : IsCourse Descending es)
    (fresh : times i.0 (visited es) ≡ 0) (few : length (visited es) < 32) where
  -- that asks for nothing yet
  pub course_visit : IsCourse PreRunning (es ++ Pre (record { instance = i; worker = worker; state = pre.Running; place = place }) ∷ [])
  course_visit =
      let e : Entry = Pre (record { instance = i; worker = worker; state = pre.Running; place = place }) in
      let o = left_push_none answers es e refl (λ j. refl) in
      let u = left_push_none drains es e refl (λ j. refl) in
      course_push Descending PreRunning es e c refl (λ j. apart_more j i.0 (visited es) fresh (c.apart j))
      (λ j. omega (arith, ap (λ xs. times j (instances xs)) o)) (rw (o, u) c.ascent)
      (omega (arith, few)) (omega (arith, ap length o)) (none_made_push es e (no_posts Descending es Descending c.order refl) refl) tt

  -- that asks at once
  pub course_visit_ask : (completion : Completion) → IsCourse Descending
      (es ++ Pre (record { instance = i; worker = worker; state = pre.Asked completion; place = place }) ∷ [])
  course_visit_ask completion =
      let e : Entry = Pre (record { instance = i; worker = worker; state = pre.Asked completion; place = place }) in
      let o = owed_visit es worker i completion place c fresh in
      let u = left_push_ask drains es e (ask_from worker i completion place) refl (λ j. refl) (not_drained i.0 es (unvisited Descending es i.0 c fresh)) in
      let n = no_posts Descending es Descending c.order refl in let h = c.ascent in
      course_push Descending Descending es e c refl (λ j. apart_more j i.0 (visited es) fresh (c.apart j))
      (λ j. omega (arith, ap (λ xs. times j (instances xs)) o))
      (rw (o, u, n) (ap (λ xs. i.0 ∷ xs) (rw n at h))) (omega (arith, few)) (omega (arith, ap length o)) (none_made_push es e n refl) tt

-- a base call begins
pub course_in_base : (es : List Entry) → IsCourse Descending es → IsCourse InBase es
course_in_base es c = record {
  order = c.order;
  apart = c.apart;
  once = c.once;
  ascent = c.ascent;
  synchronized = c.synchronized;
  few =
      c.few;
  room = c.room;
  drain = tt;
}

-- the base's entry
pub course_base : (s : Stage) (es : List Entry) (status : Status) (information : ℕ) → way_of s ≡ Descending → slack s ≡ 1
    → IsCourse s es → IsCourse Ascending (es ++ Base status information ∷ [])
course_base s es status information way slack_is c =
    let e = Base status information in
    let o = left_push_none answers es e refl (λ i. refl) in
    let u = left_push_none drains es e refl (λ i. refl) in
    course_push s Ascending es e c (rw way refl) (λ i. omega (arith, c.apart i))
    (λ i. omega (arith, ap (λ xs. times i (instances xs)) o)) (rw (o, u) c.ascent) (omega (arith, c.few))
    (omega (arith, ap length o, slack_is)) (none_made_push es e (no_posts Descending es Descending (c.order ∙ ap Some way) refl) refl) tt

-- an instance stands at most once among those owed, and so the first of them does
pub owed_once : (s : Stage) (es : List Entry) (i : ℕ) → IsCourse s es → times i (instances (owed es)) ≤ 1
owed_once s es i c = omega (arith, asked_among i es, c.once i, c.apart i)

pub owed_first : (s : Stage) (es : List Entry) (ask : Ask) (rest : List Ask) → IsCourse s es → owed es ≡ ask ∷ rest
    → times ask.instance.0 (instances (owed es)) ≡ 1
owed_first s es ask rest c next =
    let same : one (ask.instance.0 == ask.instance.0) ≡ 1 = grind (arith, nat_tests) in
    omega (arith, ap (λ xs. times ask.instance.0 (instances xs)) next, owed_once s es ask.instance.0 c, same)

-- an answer to the one that is owed next leaves the others
pub owed_answered : (s : Stage) (es : List Entry) (e : Entry) (ask : Ask) (rest : List Ask) → IsCourse s es → owed es ≡ ask ∷ rest
    → ask_of e ≡ None → ((j : ℕ) → answers j e ≡ (ask.instance.0 == j))
    → owed (es ++ e ∷ []) ≡ rest
owed_answered s es e ask rest c next asks same =
    left_push_answer answers es e ask.instance.0 asks same ∙ ap (without ask.instance.0) next
    ∙ without_head ask rest (omega (arith, owed_first s es ask rest c next, ap (λ xs. times ask.instance.0 (instances xs)) next))

answered_once : (es : List Entry) (e : Entry) (i : ℕ) → ask_of e ≡ None → ((j : ℕ) → answers j e ≡ (i == j)) → times i (instances (owed es)) ≡ 1
    → (j : ℕ) → one (answers j e) + times j (instances (owed (es ++ e ∷ []))) ≡ times j (instances (owed es)) + 0
answered_once es e i asks same once j =
    let b = ap (λ xs. times j (instances xs)) (left_push_answer answers es e i asks same) ∙ ap (times j) (instances_without i (owed es)) in
    omega (arith, ap one (same j), b, others_once i j (instances (owed es)) once)

-- an entry that asks for nothing
made_push : (es : List Entry) (e : Entry) → ask_of e ≡ None → All (MadeAsAsked (asked es)) es → MadeAsAsked (asked es) e
    → All (MadeAsAsked (asked (es ++ e ∷ []))) (es ++ e ∷ [])
made_push es e asks h here =
    subst (λ xs. All (MadeAsAsked xs) (es ++ e ∷ [])) (sym (filter_map-push ask_of es e ∙ ap (λ o. asked es ++ option_to_list o) asks ∙ append-nil (asked es)))
    (All-push (MadeAsAsked (asked es)) es e h here)

-- the postoperation that comes next, by a worker that may make it
pub course_post : (state : PostState) (es : List Entry) (worker : WorkerId) (ask : Ask) (rest : List Ask) → owed es ≡ ask ∷ rest
    → may_take worker ask ≡ true → IsCourse Ascending es
    → IsCourse (post_leads state) (es ++ post_entry worker ask.instance state ∷ [])
course_post state es worker ask rest next may c =
    let e = post_entry worker ask.instance state in
    let leads : after Ascending e ≡ Some (way_of (post_leads state)) = grind arith in
    let room : slack (post_leads state) ≡ 0 = grind arith in
    let r = owed_answered Ascending es e ask rest c next refl (λ j. refl) in
    let u = left_push_none drains es e refl (λ j. refl) in
    let h = c.ascent in
    course_push Ascending (post_leads state) es e c leads (λ j. omega (arith, c.apart j))
    (answered_once es e ask.instance.0 refl (λ j. refl) (owed_first Ascending es ask rest c next))
    (rw (r, u) (sym (ap (λ xs. posted es ++ instances xs) next) ∙ h)) (omega (arith, c.few)) (omega (arith, ap length r, ap length next, room))
    (made_push es e refl c.synchronized (made_next worker state es ask rest next (omega (arith, asked_among ask.instance.0 es, c.apart ask.instance.0)) may))
    (no_drain state (es ++ e ∷ []))
  where
    no_drain : (state : PostState) (es : List Entry) → HasItsDrain (post_leads state) es
    no_drain post.Running es = tt
    no_drain state es = tt

drains_among : (i : ℕ) (es : List Entry) → drain_opens i es ≤ answer_count i es
drains_among i [] = omega arith
drains_among i (e ∷ es) = grind (arith, nat_tests, drains_among i es)

pub drains_push : (i : ℕ) (es : List Entry) (e : Entry) → drain_opens i (es ++ e ∷ []) ≡ drain_opens i es + drain_opens_at i e
drains_push i [] e = omega arith
drains_push i (x ∷ es) e = omega (arith, drains_push i es e)

-- a drain, which may come at any stage; an instance that is owed was answered by no entry
pub course_drain : (s t : Stage) (es : List Entry) (i : InstanceId) → times i.0 (instances (owed es)) ≡ 1 → way_of t ≡ way_of s → slack t ≡ slack s
    → (drain_opens i.0 (es ++ Drain (record { instance = i; is_running = true }) ∷ []) ≡ 1 → HasItsDrain s es
    → HasItsDrain t (es ++ Drain (record { instance = i; is_running = true }) ∷ []))
    → IsCourse s es → IsCourse t (es ++ Drain (record { instance = i; is_running = true }) ∷ [])
course_drain s t es i once way slack_is drains' c =
    let e : Entry = Drain (record { instance = i; is_running = true }) in
    let w = left_push_answer answers es e i.0 refl (λ j. refl) in
    let n = left_push_answer drains es e i.0 refl (λ j. refl) in
    let none : answer_count i.0 es ≡ 0 = omega (arith, c.once i.0, asked_among i.0 es, c.apart i.0, once) in
    let unposted : times i.0 (posted es) ≡ 0 = omega (arith, posted_among i.0 es, none) in
    let same : one ((i.0 == i.0) && true) ≡ 1 = grind (arith, nat_tests) in
    let runs : drain_opens i.0 (es ++ e ∷ []) ≡ 1 = omega (arith, drains_push i.0 es e, drains_among i.0 es, same, none) in
    let a = ap (λ xs. posted es ++ xs) (instances_without i.0 (owed es)) in
    let b = sym (filter-append (λ j. not (i.0 == j)) (posted es) (instances (owed es))
    ∙ ap (λ xs. xs ++ others i.0 (instances (owed es))) (others_none i.0 (posted es) unposted)) in
    course_push s t es e c (ap Some (sym way)) (λ j. omega (arith, c.apart j)) (answered_once es e i.0 refl (λ j. refl) once)
    (rw (w, n) (a ∙ b ∙ ap (others i.0) c.ascent ∙ sym (instances_without i.0 (undrained es)))) (omega (arith, c.few))
    (omega (arith, ap length w, length_without i.0 (owed es), once, slack_is)) (made_push es e refl c.synchronized tt) (drains' runs c.drain)
