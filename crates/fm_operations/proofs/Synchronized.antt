-- A postoperation that was asked for as synchronized is made by the worker of its preoperation.
use Rattle.fm_operations.proofs.Words.{ℕ, Bool, true, false, cond, not, List, [], map, reverse, filter, refl, sym, ap, subst, arith, nat_tests}
use Rattle.fm_operations.proofs.Words.{WorkerId, PostState, Ask, Entry, Pre, Base, Post, Drain, one, times, asked, posted, owed, instances, post_entry, may_take}
use Rattle.fm_operations.proofs.Words.{settle_post, settle_drain, MadeAsAsked, is_answered, reverse-append}
use Rattle.fm_operations.proofs.Words.{All, All-cons, All-head, All-map, All-nil, All-push, All-tail, All-weaker}
use Rattle.std.proofs.Common.{◌≡◌, ◌≤◌, ◌==◌, ◌∷◌}
use Rattle.std.proofs.lemmas.List.{reverse-reverse}
use Rattle.fm_operations.proofs.Owed.{times_instances-append}

-- without postoperations nothing is to be said
pub none_made : (asks : List Ask) (es : List Entry) → posted es ≡ [] → All (MadeAsAsked asks) es
none_made asks [] none = All-nil (MadeAsAsked asks)
none_made asks (Pre visit ∷ es) none = All-cons (MadeAsAsked asks) (Pre visit) es tt (none_made asks es none)
none_made asks (Base status information ∷ es) none = All-cons (MadeAsAsked asks) (Base status information) es tt (none_made asks es none)
none_made asks (Post visit ∷ es) none = cc
none_made asks (Drain visit ∷ es) none = All-cons (MadeAsAsked asks) (Drain visit) es tt (none_made asks es none)

-- what is settled says who made it as before
post_still : (state : PostState) (asks : List Ask) (e : Entry) → MadeAsAsked asks e → MadeAsAsked asks (settle_post state e)
post_still state asks (Post visit) h = h
post_still state asks (Pre visit) h = h
post_still state asks (Base status information) h = h
post_still state asks (Drain visit) h = h

drain_still : (i : ℕ) (asks : List Ask) (e : Entry) → MadeAsAsked asks e → MadeAsAsked asks (settle_drain i e)
drain_still i asks (Post visit) h = h
drain_still i asks (Pre visit) h = h
drain_still i asks (Base status information) h = h
drain_still i asks (Drain visit) h = tt

made_still : (f : Entry → Entry) (es : List Entry) → ((asks : List Ask) (e : Entry) → MadeAsAsked asks e → MadeAsAsked asks (f e)) → asked (map f es) ≡ asked es
    → All (MadeAsAsked (asked es)) es → All (MadeAsAsked (asked (map f es))) (map f es)
made_still f es still same h =
    subst (λ asks. All (MadeAsAsked asks) (map f es)) (sym same)
    (All-map (MadeAsAsked (asked es)) f es (All-weaker (MadeAsAsked (asked es)) (λ e. MadeAsAsked (asked es) (f e)) (still (asked es)) es h))

pub made_post : (state : PostState) (es : List Entry) → asked (map (settle_post state) es) ≡ asked es → All (MadeAsAsked (asked es)) es
    → All (MadeAsAsked (asked (map (settle_post state) es))) (map (settle_post state) es)
made_post state es same h = made_still (settle_post state) es (post_still state) same h

pub made_drain : (i : ℕ) (es : List Entry) → asked (map (settle_drain i) es) ≡ asked es → All (MadeAsAsked (asked es)) es
    → All (MadeAsAsked (asked (map (settle_drain i) es))) (map (settle_drain i) es)
made_drain i es same h = made_still (settle_drain i) es (drain_still i) same h

-- ---- the ask of an instance is the only one

all_reversed : {X : Type 0} (P : X → Type 0) (xs : List X) → All P xs → All P (reverse xs)
all_reversed P [] h = All-nil P
all_reversed P (x ∷ xs) h = subst (All P) (sym (reverse-append (x ∷ []) xs))
    (All-push P (reverse xs) x (all_reversed P xs (All-tail P x xs h)) (All-head P x xs h))

times_reversed : (i : ℕ) (asks : List Ask) → times i (instances (reverse asks)) ≡ times i (instances asks)
times_reversed i [] = refl
times_reversed i (ask ∷ asks) =
    omega (arith, ap (λ xs. times i (instances xs)) (reverse-append (ask ∷ []) asks), times_instances-append i (reverse asks) (ask ∷ []), times_reversed i asks)

filter_among : (i : ℕ) (p : Ask → Bool) (asks : List Ask) → times i (instances (filter p asks)) ≤ times i (instances asks)
filter_among i p [] = omega arith
filter_among i p (ask ∷ asks) = grind (arith, nat_tests, filter_among i p asks)

abbrev Only : Ask → Ask → Type 0
Only ask a = a.instance.0 ≡ ask.instance.0 → a ≡ ask

none_only : (ask : Ask) (asks : List Ask) → times ask.instance.0 (instances asks) ≡ 0 → All (Only ask) asks
none_only ask [] none = All-nil (Only ask)
none_only ask (a ∷ asks) none =
    All-cons (Only ask) a asks (λ same. absurd (grind (arith, nat_tests, none, same))) (none_only ask asks (omega (arith, none)))

the_only : (p : Ask → Bool) (asks rest : List Ask) (ask : Ask) → filter p asks ≡ ask ∷ rest → times ask.instance.0 (instances asks) ≤ 1 → All (Only ask) asks
the_only p [] rest ask is few = cc
the_only p (a ∷ asks) rest ask is few = by_test (p a) (λ found. the_only p asks rest ask found (omega (arith, few))) is
  where
    by_test : (b : Bool) → (filter p asks ≡ ask ∷ rest → All (Only ask) asks) → cond b (a ∷ filter p asks) (filter p asks) ≡ ask ∷ rest
        → All (Only ask) (a ∷ asks)
    by_test true others is =
        let same : a ≡ ask = cc in
        let here : one (a.instance.0 == ask.instance.0) ≡ 1 = grind (arith, nat_tests, same) in
        All-cons (Only ask) a asks (λ e. same) (none_only ask asks (omega (arith, few, here)))
    by_test false others is =
        let among = filter_among ask.instance.0 p asks in
        let there : 1 ≤ times ask.instance.0 (instances (filter p asks)) = grind (arith, nat_tests, is) in
        All-cons (Only ask) a asks (λ e. absurd (grind (arith, nat_tests, few, among, there, e))) (others is)

-- the postoperation that comes next, by a worker that may make it
pub made_next : (worker : WorkerId) (state : PostState) (es : List Entry) (ask : Ask) (rest : List Ask) → owed es ≡ ask ∷ rest
    → times ask.instance.0 (instances (asked es)) ≤ 1
    → may_take worker ask ≡ true → MadeAsAsked (asked es) (post_entry worker ask.instance state)
made_next worker state es ask rest next few may =
    let all = the_only (λ a. not (is_answered es a.instance.0)) (reverse (asked es)) rest ask next
    (omega (arith, few, times_reversed ask.instance.0 (asked es))) in
    let there = subst (All (Only ask)) (reverse-reverse (asked es)) (all_reversed (Only ask) (reverse (asked es)) all) in
    All-weaker (Only ask) (λ a. a.instance.0 ≡ ask.instance.0 → a.is_synchronized ≡ true → worker.0 ≡ a.worker.0)
    (λ a only same wants. taken a (only same) wants) (asked es) there
  where
    taken : (a : Ask) → a ≡ ask → a.is_synchronized ≡ true → worker.0 ≡ a.worker.0
    taken a is wants = grind (arith, nat_tests, is, wants, may)
