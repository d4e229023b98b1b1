-- What is noted beside the entries stays true of them.
use Rattle.fm_operations.proofs.Words.{ℕ, Bool, true, false, cond, List, [], length, map, drop, get_or, Option, Some, None, option_map, option_to_list, reverse}
use Rattle.fm_operations.proofs.Words.{refl, sym, ap, ap₂, arith, nat_tests, same_Some, slice_get, count_by, length-map, slack}
use Rattle.fm_operations.proofs.Words.{InstanceId, WorkerId, Status, Stage, Descending, PreState, PostState, PreVisit, Ask, Entry, Pre, Base, one, times}
use Rattle.fm_operations.proofs.Words.{ask_in, ask_of, ask_at, asks, visit_of, answers, Drain, visited, last_visited, owed, walk, way_of, is_open, is_pre_open}
use Rattle.fm_operations.proofs.Words.{settle, is_due, settle_pre, settle_post, settle_drain, IsCourse, IsNoted, is_running_drain_of, drain_opens, after}
use Rattle.fm_operations.specs.Counts.{drain_opens_at}
use Rattle.std.proofs.Common.{◌≡◌, ◌+◌, ◌-◌, ◌<◌, ◌≤◌, ◌==◌, ◌∷◌, ◌++◌, ◌∙◌, zero, suc, set, remove, position, option_and_then}
use Rattle.std.specs.Option.{option_or}
use Rattle.fm_operations.proofs.Words.{take, take_more, post_of, last_posted}
use Rattle.std.specs.List.{filter_map}
use Rattle.std.proofs.lemmas.Option.{slice_get-map}
use Rattle.std.specs.Option.{is_some}
use Rattle.fm_callback_data.specs.declared.verdict.Completion.{Completion}
use Rattle.fm_operations.specs.declared.entry.PreState.TheVariants as pre
use Rattle.fm_operations.specs.declared.entries.Ending.{Ending}
use Rattle.fm_operations.specs.declared.entries.Ending.TheVariants as ending
use Rattle.fm_types.proofs.Firsts.{count-cons}
use Rattle.fm_types.proofs.Lists.{slice_get-push}
use Rattle.fm_operations.proofs.Owed.{filter_map-push, owed_push_none, left_push_answer}
use Rattle.fm_operations.specs.Drains.{is_of}
use Rattle.fm_operations.proofs.Depths.{left_there, removed_alone}
use Rattle.fm_operations.proofs.Walks.{is_callback, is_pre, is_post, walk_parts, last_with, settling_pre, settling_post}
use Rattle.fm_operations.proofs.Course.{owed_visit, owed_answered, owed_once}
use Rattle.fm_operations.proofs.Settled.{with_state, settles_pre, settles_post, settles_drain, the_open_pre, walks_to}
use Rattle.fm_operations.proofs.Counting.{owed_asked, owed_post_settled, owed_drain_settled}

-- ---- one element of a list passes a test

pub nothing_due : {X : Type 0} (p : X → Bool) (f : X → X) (xs : List X) → ((x : X) → p x ≡ false → f x ≡ x) → count_by p xs ≡ 0 → map f xs ≡ xs
nothing_due p f [] closed none = refl
nothing_due p f (x ∷ xs) closed none = grind (arith, nat_tests, count-cons p x xs, none, closed x, nothing_due p f xs closed)

counts_at : {X : Type 0} (p : X → Bool) (xs : List X) (k : ℕ) → option_map p (slice_get xs k) ≡ Some true → 1 ≤ count_by p xs
counts_at p [] k at = cc
counts_at p (x ∷ xs) zero at = grind (arith, nat_tests, count-cons p x xs, at)
counts_at p (x ∷ xs) (suc k) at = omega (arith, count-cons p x xs, counts_at p xs k at)

-- a change of the one that passes is a change at its place
pub changed_at : {X : Type 0} (p : X → Bool) (f : X → X) (xs : List X) (k : ℕ) (d : X) → ((x : X) → p x ≡ false → f x ≡ x) → count_by p xs ≡ 1
    → option_map p (slice_get xs k) ≡ Some true → set xs k (f (get_or xs k d)) ≡ map f xs
changed_at p f [] k d closed lone at = cc
changed_at p f (x ∷ xs) zero d closed lone at = grind (arith, nat_tests, count-cons p x xs, lone, at, nothing_due p f xs closed)
changed_at p f (x ∷ xs) (suc k) d closed lone at = grind (
  arith,
  nat_tests,
  count-cons p x xs,
  lone,
  counts_at p xs k at,
  closed x,
  changed_at p f xs k d closed,
)

past_front : {X : Type 0} (front : List X) (x : X) (back : List X) → slice_get (front ++ x ∷ back) (length front) ≡ Some x
past_front [] x back = refl
past_front (y ∷ front) x back = past_front front x back

-- it is the one that stands between those before it and those behind it
the_lone : {X : Type 0} (p : X → Bool) (front : List X) (x : X) (back : List X) (k : ℕ) → p x ≡ true → count_by p (front ++ x ∷ back) ≡ 1
    → option_map p (slice_get (front ++ x ∷ back) k) ≡ Some true → slice_get (front ++ x ∷ back) k ≡ Some x
the_lone p [] x back zero here lone at = refl
the_lone p [] x back (suc k) here lone at = absurd (grind (arith, nat_tests, count-cons p x back, here, lone, counts_at p back k at))
the_lone p (y ∷ front) x back zero here lone at =
    absurd (grind (
      arith,
      nat_tests,
      count-cons p y (front ++ x ∷ back),
      lone,
      at,
      counts_at p (front ++ x ∷ back) (length front) (ap (option_map p) (past_front front x back) ∙ ap Some here),
    ))
the_lone p (y ∷ front) x back (suc k) here lone at =
    the_lone p front x back k here (omega (arith, count-cons p y (front ++ x ∷ back), lone, counts_at p (front ++ x ∷ back) k at)) at

-- ---- at most one callback is open

pub open_count : (s : Stage) (es : List Entry) (t : Stage) → walk s es ≡ Some t → count_by is_open es + one (is_callback s) ≡ one (is_callback t)
open_count s [] t w = omega (arith, ap (λ u. one (is_callback u)) (same_Some s t w))
open_count s (e ∷ es) t w =
    let k = walk_parts s e es t w in
    let here = opens_once s e k.0 k.1 in
    omega (arith, count-cons is_open e es, open_count k.0 es t k.2, here)
  where
    opens_once : (s : Stage) (e : Entry) (u : Stage) → after s e ≡ Some u → one (is_open e) + one (is_callback s) ≡ one (is_callback u)
    opens_once s e u leads = grind (arith, nat_tests)

pub open_lone : (s : Stage) (es : List Entry) → IsCourse s es → is_callback s ≡ true → way_of s ≡ s → count_by is_open es ≡ 1
open_lone s es c called way = omega (arith, open_count Descending es s (walks_to s es c way), ap one called)

pub drain_lone : (i : ℕ) (es : List Entry) → count_by (is_running_drain_of i) es ≡ drain_opens i es
drain_lone i [] = refl
drain_lone i (e ∷ es) = let here : cond (is_running_drain_of i e) 1 0 ≡ drain_opens_at i e = grind (arith, nat_tests) in
    omega (arith, count-cons (is_running_drain_of i) e es, drain_lone i es, here)

-- only what is over changes
pub due_alone : (over : Ending) (e : Entry) → is_due over e ≡ false → settle over e ≡ e
due_alone (ending.Pre state) e closed = settling_pre state e closed
due_alone (ending.Post state) e closed = settling_post state e closed
due_alone (ending.Drain instance) e closed = grind (arith, closed)

-- ---- what is asked for at the places

-- what is asked for at a place stays
abbrev pub AsksStay : List Entry → List Entry → Type 0
AsksStay es fs = (k : ℕ) (a : Ask) → ask_at es k ≡ Some a → ask_at fs k ≡ Some a

asks_push : (es fs : List Entry) → AsksStay es (es ++ fs)
asks_push [] fs k a is = cc
asks_push (e ∷ es) fs zero a is = is
asks_push (e ∷ es) fs (suc k) a is = asks_push es fs k a is

asks_map : (f : Entry → Entry) (es : List Entry) → ((e : Entry) (a : Ask) → ask_of e ≡ Some a → ask_of (f e) ≡ Some a) → AsksStay es (map f es)
asks_map f [] keeps k a is = cc
asks_map f (e ∷ es) keeps zero a is = keeps e a is
asks_map f (e ∷ es) keeps (suc k) a is = asks_map f es keeps k a is

stays_asked : (es fs : List Entry) → AsksStay es fs → (places : List ℕ) (asks : List Ask) → map (ask_at es) places ≡ map Some asks
    → map (ask_at fs) places ≡ map Some asks
stays_asked es fs stays [] asks is = is
stays_asked es fs stays (k ∷ places) [] is = cc
stays_asked es fs stays (k ∷ places) (a ∷ asks) is =
    let h : ask_at es k ≡ Some a = cc in
    let t : map (ask_at es) places ≡ map Some asks = cc in
    ap₂ (λ x xs. x ∷ xs) (stays k a h) (stays_asked es fs stays places asks t)

ask_at_end : (es : List Entry) (e : Entry) → ask_at (es ++ e ∷ []) (length es) ≡ ask_of e
ask_at_end es e = ap (option_and_then ask_of) (slice_get-push es e)

-- ---- one more entry

pub last_more : (f : Entry → Option ℕ) (es : List Entry) (e : Entry) → slice_get (reverse (filter_map f (es ++ e ∷ []))) 0
    ≡ option_or (f e) (slice_get (reverse (filter_map f es)) 0)
last_more f es e = ap (λ xs. slice_get (reverse xs) 0) (filter_map-push f es e) ∙ last_with (filter_map f es) (f e)

last_push : (es : List Entry) (e : Entry) → last_visited (es ++ e ∷ []) ≡ option_or (visit_of e) (last_visited es)
last_push es e = last_more visit_of es e

-- the last entry up to a place says it, or those before it do
pub posted_back : (es : List Entry) (n : ℕ) (e : Entry) (p : Option InstanceId) → 0 < n → n ≤ length es → last_posted es ≡ last_posted (take n es)
    → option_map (λ i. i.0) p ≡ post_of (get_or es (n - 1) e) → last_posted es ≡ option_or (option_map (λ i. i.0) p) (last_posted (take (n - 1) es))
posted_back es n e p some within from is =
    let k : n - 1 + 1 ≡ n = omega (arith, some) in
    from ∙ ap (λ j. last_posted (take j es)) (sym k) ∙ ap last_posted (take_more es (n - 1) e (omega (arith, some, within)))
    ∙ last_more post_of (take (n - 1) es) (get_or es (n - 1) e) ∙ ap (λ o. option_or o (last_posted (take (n - 1) es))) (sym is)

pub posted_here : (p : Option InstanceId) (m rest : Option ℕ) → m ≡ option_or (option_map (λ i. i.0) p) rest → is_some p ≡ true → option_map (λ i. i.0) p ≡ m
posted_here p m rest is some = grind (arith, is, some)

pub posted_before : (p : Option InstanceId) (m rest : Option ℕ) → m ≡ option_or (option_map (λ i. i.0) p) rest → is_some p ≡ false → m ≡ rest
posted_before p m rest is none = grind (arith, is, none)

noted_same : {places : List ℕ} {latest : Option InstanceId} {es : List Entry} (fs : List Entry) → AsksStay es fs → owed fs ≡ owed es
    → last_visited fs ≡ last_visited es
    → IsNoted places latest es → IsNoted places latest fs
noted_same {places} {es = es} fs stays same visits n = record {
  asks = stays_asked es fs stays places (owed es) n.asks
      ∙ ap (map Some) (sym same);
  last = n.last ∙ sym visits;
}

module _ {places : List ℕ} {latest : Option InstanceId} (es : List Entry) (n : IsNoted places latest es) where
  pushed : (e : Entry) → map (ask_at (es ++ e ∷ [])) places ≡ map Some (owed es)
  pushed e = stays_asked es (es ++ e ∷ []) (asks_push es (e ∷ [])) places (owed es) n.asks

  pub noted_base : (status : Status) (information : ℕ) → IsNoted places latest (es ++ Base status information ∷ [])
  noted_base status information =
      let e = Base status information in noted_same (es ++ e ∷ []) (asks_push es (e ∷ [])) (owed_push_none es e refl (λ i. refl)) (last_push es e) n

  pub noted_visit : (worker : WorkerId) (i : InstanceId) (place : ℕ)
      → IsNoted places (Some i) (es ++ Pre (record { instance = i; worker = worker; state = pre.Running; place = place }) ∷ [])
  noted_visit worker i place =
      let e : Entry = Pre (record { instance = i; worker = worker; state = pre.Running; place = place }) in
      record { asks = pushed e ∙ ap (map Some) (sym (owed_push_none es e refl (λ j. refl))); last = sym (last_push es e) }

  pub noted_ask : (worker : WorkerId) (i : InstanceId) (completion : Completion) (place : ℕ) → IsCourse Descending es → times i.0 (visited es) ≡ 0
      → IsNoted (length es ∷ places) (Some i) (es ++ Pre (record { instance = i; worker = worker; state = pre.Asked completion; place = place }) ∷ [])
  noted_ask worker i completion place c fresh =
      let e : Entry = Pre (record { instance = i; worker = worker; state = pre.Asked completion; place = place }) in
      record {
        asks = ap₂ (λ x xs. x ∷ xs) (ask_at_end es e) (pushed e)
            ∙ ap (map Some) (sym (owed_visit es worker i completion place c fresh));
        last = sym (last_push es e);
      }

  -- an answer to the one that is owed next
  pub noted_answer : (s : Stage) (e : Entry) (ask : Ask) (rest : List Ask) → IsCourse s es → owed es ≡ ask ∷ rest → ask_of e ≡ None → visit_of e ≡ None
      → ((j : ℕ) → answers j e ≡ (ask.instance.0 == j)) → IsNoted (drop 1 places) latest (es ++ e ∷ [])
  noted_answer s e ask rest c next asks visits same = record {
    asks = map_tail (ask_at (es ++ e ∷ [])) places (Some ask) (map Some rest) (pushed e ∙ ap (map Some) next)
        ∙ ap (map Some) (sym (owed_answered s es e ask rest c next asks same));
    last = n.last ∙ sym (last_push es e ∙ ap (λ o. option_or o (last_visited es)) visits);
  }
    where
      map_tail : (f : ℕ → Option Ask) (ks : List ℕ) (x : Option Ask) (xs : List (Option Ask)) → map f ks ≡ x ∷ xs → map f (drop 1 ks) ≡ xs
      map_tail f [] x xs is = cc
      map_tail f (k ∷ ks) x xs is = cc

-- an answer to one that stands anywhere
pub noted_early : {places : List ℕ} {latest : Option InstanceId} (s : Stage) (es : List Entry) (i : InstanceId) (depth : ℕ)
    → IsCourse s es → position (is_of i.0) (owed es) ≡ Some depth
    → IsNoted places latest es → IsNoted (remove places depth) latest (es ++ Drain (record { instance = i; is_running = true }) ∷ [])
noted_early {places} s es i depth c is n =
    let e : Entry = Drain (record { instance = i; is_running = true }) in record {
      asks = stays_asked es (es ++ e ∷ []) (asks_push es (e ∷ [])) (remove places depth) (remove (owed es) depth)
          (left_there (ask_at es) places (owed es) depth n.asks)
          ∙ ap (map Some) (removed_alone i.0 (owed es) depth is (owed_once s es i.0 c) ∙ sym (left_push_answer answers es e i.0 refl (λ j. refl)));
      last = n.last ∙ sym (last_push es e);
    }

-- ---- a callback that is settled

last_settled : (es fs : List Entry) → visited fs ≡ visited es → last_visited fs ≡ last_visited es
last_settled es fs same = ap (λ xs. slice_get (reverse xs) 0) same

pre_keeps : (state : PreState) (e : Entry) (a : Ask) → ask_of e ≡ Some a → ask_of (settle_pre state e) ≡ Some a
pre_keeps state (Pre visit) a is = by_state visit.state is
  where
    by_state : (was : PreState) → ask_in visit was ≡ Some a → ask_in visit (cond (is_pre_open was) state was) ≡ Some a
    by_state (pre.Asked completion) is = is
    by_state (pre.Synchronized completion) is = is
    by_state was is = cc
pre_keeps state e a is = cc

asked_there : (s : Stage) (es : List Entry) (state : PreState) (k : ℕ) (p : is_pre s ≡ true) (c : IsCourse s es)
    → option_map is_open (slice_get es k) ≡ Some true
    → ask_at (map (settle_pre state) es) k ≡ ask_in (with_state (the_open_pre s es c p).visit state) state
asked_there s es state k p c at =
    let o = the_open_pre s es c p in
    let lone = open_lone s es c (grind (arith, p)) (grind (arith, p)) in
    let there : slice_get es k ≡ Some (Pre o.visit) =
    ap (λ xs. slice_get xs k) o.split
    ∙ the_lone is_open o.front (Pre o.visit) o.back k o.unsettled (sym (ap (count_by is_open) o.split) ∙ lone)
    (sym (ap (λ xs. option_map is_open (slice_get xs k)) o.split) ∙ at) in
    ap (option_and_then ask_of) (slice_get-map (settle_pre state) es k ∙ ap (option_map (settle_pre state)) there)
    ∙ ap (λ b. ask_of (Pre (with_state o.visit (cond b state o.visit.state)))) o.unsettled

one_more : (state : PreState) (visit : PreVisit) (fs : List Entry) (k : ℕ) (places : List ℕ) (as' : List Ask)
    → ask_at fs k ≡ ask_in visit state → map (ask_at fs) places ≡ map Some as'
    → map (ask_at fs) (cond (asks state) (k ∷ places) places) ≡ map Some (option_to_list (ask_in visit state) ++ as')
one_more (pre.Asked completion) visit fs k places as' at is = ap₂ (λ x xs. x ∷ xs) at is
one_more (pre.Synchronized completion) visit fs k places as' at is = ap₂ (λ x xs. x ∷ xs) at is
one_more state visit fs k places as' at is = is

pub noted_pre : {places : List ℕ} {latest : Option InstanceId} (s : Stage) (es : List Entry) (state : PreState) (k : ℕ) → is_pre s ≡ true → IsCourse s es
    → option_map is_open (slice_get es k) ≡ Some true → IsNoted places latest es
    → IsNoted (cond (asks state) (k ∷ places) places) latest (map (settle_pre state) es)
noted_pre {places} s es state k p c at n =
    let fs = map (settle_pre state) es in
    let o = the_open_pre s es c p in
    record {
      asks = one_more state (with_state o.visit state) fs k places (owed es) (asked_there s es state k p c at)
          (stays_asked es fs (asks_map (settle_pre state) es (pre_keeps state)) places (owed es) n.asks)
          ∙ ap (map Some) (sym (owed_asked s es state p c));
      last = n.last ∙ sym (last_settled es fs (settles_pre es state o).visits);
    }

pub noted_post : {places : List ℕ} {latest : Option InstanceId} (s : Stage) (es : List Entry) (state : PostState) → is_post s ≡ true → IsCourse s es
    → IsNoted places latest es → IsNoted places latest (map (settle_post state) es)
noted_post s es state p c n =
    noted_same (map (settle_post state) es) (asks_map (settle_post state) es (λ e a is. grind (arith, is)))
    (owed_post_settled s es state p c) (last_settled es (map (settle_post state) es) (settles_post es state).visits) n

pub noted_drain : {places : List ℕ} {latest : Option InstanceId} (i : ℕ) (es : List Entry) → IsNoted places latest es
    → IsNoted places latest (map (settle_drain i) es)
noted_drain i es n =
    noted_same (map (settle_drain i) es) (asks_map (settle_drain i) es (λ e a is. grind (arith, is))) (owed_drain_settled i es)
    (last_settled es (map (settle_drain i) es) (settles_drain i es).visits) n

-- ---- there is room

visits_among : (es : List Entry) → length (visited es) ≤ length es
visits_among [] = omega arith
visits_among (e ∷ es) = grind (arith, nat_tests, visits_among es)

pub due_inside : {X : Type 0} (p : X → Bool) (xs : List X) (k : ℕ) → option_map p (slice_get xs k) ≡ Some true → k < length xs
due_inside p [] k at = cc
due_inside p (x ∷ xs) zero at = omega arith
due_inside p (x ∷ xs) (suc k) at = omega (arith, due_inside p xs k at)

pub owed_few : {places : List ℕ} {latest : Option InstanceId} (s : Stage) (es : List Entry) → IsCourse s es → IsNoted places latest es
    → length places + slack s ≤ length (visited es) + 1
owed_few {places} s es c n = omega (arith, c.few, c.room, visits_among es, sym (length-map places (ask_at es)) ∙ ap length n.asks ∙ length-map (owed es) Some)

-- ---- what is on top

-- is what is owed next
pub owed_at : {places : List ℕ} {latest : Option InstanceId} (es : List Entry) (k : ℕ) → IsNoted places latest es
    → slice_get places 0 ≡ Some k → ask_at es k ≡ slice_get (owed es) 0
owed_at {places} es k n top = first_asks places (owed es) n.asks top
  where
    first_asks : (ks : List ℕ) (asks' : List Ask) → map (ask_at es) ks ≡ map Some asks' → slice_get ks 0 ≡ Some k → ask_at es k ≡ slice_get asks' 0
    first_asks [] asks' is top = cc
    first_asks (j ∷ ks) [] is top = cc
    first_asks (j ∷ ks) (a ∷ asks') is top = cc
