-- What entries count for: references carried, operations in flight, and drains that run; and what a callback's return makes of that.
use Rattle.fm_operations.proofs.Words.{ℕ, Bool, true, false, cond, List, [], map, reverse, Option, Some, None, option_to_list, slice_get}
use Rattle.fm_operations.proofs.Words.{refl, ap, ap₂, cons_option, arith, reverse-append, filter_map-append, nat_tests, list_any}
use Rattle.fm_operations.proofs.Words.{Stage, PreState, PostState, PreVisit, Ask, Entry, Pre, Post, one, times, ask_in, is_running_drain}
use Rattle.fm_operations.proofs.Words.{visit_of, post_of, visited, last_visited, asked, owed, instances, settle_pre, settle_post}
use Rattle.fm_operations.proofs.Words.{settle_drain, opens, drain_opens, answer_count, IsCourse, CtxId, last_posted}
use Rattle.std.proofs.Common.{◌≡◌, ◌+◌, ◌≤◌, ◌==◌, ◌&&◌, ◌∷◌, ◌++◌, ◌∙◌, filter_map}
use Rattle.fm_operations.specs.Counts.{carried_among, taken_by, opens_at, leaves_by, leaves_at, post_leaves_by}
use Rattle.fm_operations.proofs.Owed.{times_instances-append}
use Rattle.fm_operations.proofs.Walks.{OpenAs, OpenPre, OpenPost, is_pre, is_post}
use Rattle.fm_operations.proofs.Course.{owed_settled}
use Rattle.fm_operations.proofs.Settled.{with_state, with_post, settled_pre_is, settles_pre, the_open_pre, settled_post_is, settles_post}
use Rattle.fm_operations.proofs.Settled.{the_open_post, settles_drain, fresh_of_open}
pub use Rattle.fm_operations.proofs.Course.{drains_push}

pub opens-append : (i : ℕ) (es fs : List Entry) → opens i (es ++ fs) ≡ opens i es + opens i fs
opens-append i [] fs = omega arith
opens-append i (e ∷ es) fs = omega (arith, opens-append i es fs)

pub opens_push : (i : ℕ) (es : List Entry) (e : Entry) → opens i (es ++ e ∷ []) ≡ opens i es + opens_at i e
opens_push i es e = omega (arith, opens-append i es (e ∷ []))

pub carried-append : (c : CtxId) (xs ys : List Ask) → carried_among c (xs ++ ys) ≡ carried_among c xs + carried_among c ys
carried-append c [] ys = omega arith
carried-append c (ask ∷ xs) ys = omega (arith, carried-append c xs ys)

pub and_true : (b : Bool) → (b && true) ≡ b
and_true b = grind arith

pub same_either : (b : Bool) (n : ℕ) → cond b n n ≡ n
same_either b n = grind arith

pub one_of_and : (a b : Bool) → one (a && b) ≡ cond a (one b) 0
one_of_and a b = grind arith

-- ---- in flight at most once

-- who is open was visited and hasn't asked, or is being answered
pub opens_among : (i : ℕ) (es : List Entry) → opens i es + times i (instances (asked es)) ≤ times i (visited es) + answer_count i es
opens_among i [] = omega arith
opens_among i (e ∷ es) = grind (arith, nat_tests, opens_among i es)

pub flight_few : (s : Stage) (es : List Entry) (i : ℕ) → IsCourse s es → opens i es + times i (instances (owed es)) ≤ 1
flight_few s es i c = omega (arith, opens_among i es, c.once i, c.apart i)

-- ---- settled callbacks

last_mid : (g : Entry → Option ℕ) (front back : List Entry) (e : Entry) (x : ℕ) → g e ≡ Some x → filter_map g back ≡ []
    → slice_get (reverse (filter_map g (front ++ e ∷ back))) 0 ≡ Some x
last_mid g front back e x is none =
    ap (λ xs. slice_get (reverse xs) 0) (filter_map-append g front (e ∷ back) ∙ ap₂ (λ o xs. filter_map g front ++ cons_option o xs) is none)
    ∙ ap (λ ys. slice_get ys 0) (reverse-append (filter_map g front) (x ∷ []))

pub last_of_open_pre : (es : List Entry) (o : OpenPre es) → last_visited es ≡ Some o.visit.instance.0
last_of_open_pre es o = ap last_visited o.split ∙ last_mid visit_of o.front o.back (Pre o.visit) o.visit.instance.0 refl o.quiet.visits

pub last_of_open_post : (es : List Entry) (o : OpenPost es) → last_posted es ≡ Some o.visit.instance.0
last_of_open_post es o = ap last_posted o.split ∙ last_mid post_of o.front o.back (Post o.visit) o.visit.instance.0 refl o.quiet.posts

-- the entry alone tells how much is open before and after
opens_settled : {V : Type 0} {kind : V → Entry} {from : Stage} {es fs : List Entry} (i : ℕ) (e : Entry) (o : OpenAs kind from es) → fs ≡ o.front ++ e ∷ o.back
    → opens i es + opens_at i e ≡ opens i fs + opens_at i (kind o.visit)
opens_settled {kind = kind} i e o is =
    omega (arith, ap (opens i) o.split ∙ opens-append i o.front (kind o.visit ∷ o.back), ap (opens i) is ∙ opens-append i o.front (e ∷ o.back))

pub owed_asked : (s : Stage) (es : List Entry) (state : PreState) (p : is_pre s ≡ true) (c : IsCourse s es)
    → owed (map (settle_pre state) es) ≡ option_to_list (ask_in (with_state (the_open_pre s es c p).visit state) state) ++ owed es
owed_asked s es state p c =
    let o = the_open_pre s es c p in owed_settled es (map (settle_pre state) es) (ask_in (with_state o.visit state) state)
    (settles_pre es state o) (fresh_of_open s es state c p)

pre_balance : (i : ℕ) (visit : PreVisit) (state : PreState)
    → one (visit.instance.0 == i) ≡ (opens_at i (Pre (with_state visit state)) + times i
    (instances (option_to_list (ask_in visit state)))) + cond (visit.instance.0 == i) (leaves_by state) 0
pre_balance i visit state = grind (arith, nat_tests)

pub flight_pre_settled : (s : Stage) (es : List Entry) (state : PreState) (j : ℕ) → is_pre s ≡ true → IsCourse s es
    → opens j es + times j (instances (owed es)) ≡ (opens j (map (settle_pre state) es) + times j
    (instances (owed (map (settle_pre state) es)))) + leaves_at j (last_visited es) (leaves_by state)
flight_pre_settled s es state j p c =
    let o = the_open_pre s es c p in
    let a = opens_settled j (Pre (with_state o.visit state)) o (settled_pre_is es state o) in
    let d = ap (λ xs. times j (instances xs)) (owed_asked s es state p c)
    ∙ times_instances-append j (option_to_list (ask_in (with_state o.visit state) state)) (owed es) in
    let e = ap (λ l. leaves_at j l (leaves_by state)) (last_of_open_pre es o) in
    let g : opens_at j (Pre o.visit) ≡ one (o.visit.instance.0 == j) = rw o.unsettled (ap one (and_true (o.visit.instance.0 == j))) in
    omega (arith, a, d, e, pre_balance j (with_state o.visit state) state, g)

pub carried_pre_settled : (s : Stage) (es : List Entry) (state : PreState) (k : CtxId) → is_pre s ≡ true → IsCourse s es
    → carried_among k (owed (map (settle_pre state) es)) ≡ carried_among k (owed es) + taken_by k state
carried_pre_settled s es state k p c =
    let o = the_open_pre s es c p in
    let d = ap (carried_among k) (owed_asked s es state p c) ∙ carried-append k (option_to_list (ask_in (with_state o.visit state) state)) (owed es) in
    let e : carried_among k (option_to_list (ask_in (with_state o.visit state) state)) ≡ taken_by k state = grind (arith, nat_tests) in
    omega (arith, d, e)

-- a verdict that asks is owed first of all, by the instance that was visited last
pub owed_pre_settled : (s : Stage) (es : List Entry) (state : PreState) → is_pre s ≡ true → IsCourse s es
    → (visit : PreVisit) × (last_visited es ≡ Some visit.instance.0) × (owed (map (settle_pre state) es) ≡ option_to_list (ask_in visit state) ++ owed es)
owed_pre_settled s es state p c =
    let o = the_open_pre s es c p in
    (with_state o.visit state, last_of_open_pre es o, owed_asked s es state p c)

pub flight_post_settled : (s : Stage) (es : List Entry) (state : PostState) (j : ℕ) → is_post s ≡ true → IsCourse s es
    → opens j es + times j (instances (owed es)) ≡ (opens j (map (settle_post state) es) + times j
    (instances (owed (map (settle_post state) es)))) + leaves_at j (last_posted es) (post_leaves_by state)
flight_post_settled s es state j p c =
    let o = the_open_post s es c p in
    let a = opens_settled j (Post (with_post o.visit state)) o (settled_post_is es state o) in
    let d = ap (λ xs. times j (instances xs)) (owed_settled es (map (settle_post state) es) None (settles_post es state) tt) in
    let e = ap (λ l. leaves_at j l (post_leaves_by state)) (last_of_open_post es o) in
    let f : one (o.visit.instance.0 == j) ≡ opens_at j (Post (with_post o.visit state)) + cond (o.visit.instance.0 == j)
    (post_leaves_by state) 0 = grind (arith, nat_tests) in
    let g : opens_at j (Post o.visit) ≡ one (o.visit.instance.0 == j) = rw o.unsettled (ap one (and_true (o.visit.instance.0 == j))) in
    omega (arith, a, d, e, f, g)

pub owed_post_settled : (s : Stage) (es : List Entry) (state : PostState) → is_post s ≡ true → IsCourse s es → owed (map (settle_post state) es) ≡ owed es
owed_post_settled s es state p c = owed_settled es (map (settle_post state) es) None (settles_post es state) tt

pub owed_drain_settled : (i : ℕ) (es : List Entry) → owed (map (settle_drain i) es) ≡ owed es
owed_drain_settled i es = owed_settled es (map (settle_drain i) es) None (settles_drain i es) tt

pub opens_drain_settled : (i j : ℕ) (es : List Entry) → opens j es ≡ opens j (map (settle_drain i) es) + cond (i == j) (drain_opens i es) 0
opens_drain_settled i j [] = grind (arith, nat_tests)
opens_drain_settled i j (e ∷ es) = grind (arith, nat_tests, opens_drain_settled i j es)

-- ---- drains that run

-- a drain that runs is a callback there
pub drains_open : (i : ℕ) (es : List Entry) → drain_opens i es ≤ opens i es
drains_open i [] = omega arith
drains_open i (e ∷ es) = grind (arith, nat_tests, drains_open i es)

pub none_running : (i : ℕ) (es : List Entry) → list_any is_running_drain es ≡ false → drain_opens i es ≡ 0
none_running i [] h = refl
none_running i (e ∷ es) h = grind (arith, nat_tests, h, none_running i es)

pub drains_pre_settled : (i : ℕ) (state : PreState) (es : List Entry) → drain_opens i (map (settle_pre state) es) ≡ drain_opens i es
drains_pre_settled i state [] = refl
drains_pre_settled i state (e ∷ es) = grind (arith, drains_pre_settled i state es)

pub drains_post_settled : (i : ℕ) (state : PostState) (es : List Entry) → drain_opens i (map (settle_post state) es) ≡ drain_opens i es
drains_post_settled i state [] = refl
drains_post_settled i state (e ∷ es) = grind (arith, drains_post_settled i state es)

pub drains_drain_settled : (i j : ℕ) (es : List Entry) → drain_opens j es ≡ drain_opens j (map (settle_drain i) es) + cond (i == j) (drain_opens i es) 0
drains_drain_settled i j [] = grind (arith, nat_tests)
drains_drain_settled i j (e ∷ es) = grind (arith, nat_tests, drains_drain_settled i j es)
