-- The laws of entries are kept where a callback that ran or held is settled.
use Rattle.fm_operations.proofs.Words.{ℕ, true, cond, List, [], length, map, Option, Some, None, option_to_list, refl, sym, ap, ap₂, arith}
use Rattle.fm_operations.proofs.Words.{append-nil, cons_option, filter_map-append, InstanceId, Stage, Descending, Bool, nat_tests}
use Rattle.fm_operations.proofs.Words.{Ascending, InDrain, PreState, PostState, PreVisit, PostVisit, Ask, Entry, Pre, Post, one, times}
use Rattle.fm_operations.proofs.Words.{ask_in, ask_of, visit_of, post_of, answers, visited, asked, posted, instances, settle_pre}
use Rattle.fm_operations.proofs.Words.{list_any, settle_post, settle_drain, pre_leads, post_leads, walk, way_of, answer_count, IsCourse}
use Rattle.fm_operations.proofs.Words.{map-append, length-map, drains, after, slack, HasItsDrain, last_place, place_of, reverse, slice_get}
use Rattle.std.proofs.Common.{◌≡◌, ◌+◌, ◌≤◌, ◌==◌, ◌||◌, ◌∷◌, ◌++◌, ◌∙◌, option_and_then, filter_map}
use Rattle.fm_operations.specs.declared.entry.PreState.TheVariants as pre
use Rattle.fm_operations.specs.declared.entry.PostState.TheVariants as post
use Rattle.fm_operations.proofs.Owed.{times-append}
use Rattle.fm_operations.proofs.Synchronized.{none_made, made_post, made_drain}
use Rattle.fm_operations.proofs.Walks.{Settling, OpenAs, OpenPre, OpenPost, open_pre, open_post, settling_pre, settling_post, is_pre, is_post}
use Rattle.fm_operations.proofs.Walks.{walk-append, no_posts}
use Rattle.fm_operations.proofs.Course.{Settles, IsFresh, course_settled, asked_among}

-- ---- entry by entry

-- what a return leaves of an entry: all but what it asks for
pub record Alike (f e : Entry) : Type 0 where
  pub visits : visit_of f ≡ visit_of e
  pub posts : post_of f ≡ post_of e
  pub answered : (i : ℕ) → answers i f ≡ answers i e
  pub drained : (i : ℕ) → drains i f ≡ drains i e

pre_alike : (state : PreState) (e : Entry) → Alike (settle_pre state e) e
pre_alike state e = record { visits = grind arith; posts = grind arith; answered = λ i. grind arith; drained = λ i. grind arith }

post_alike : (state : PostState) (e : Entry) → Alike (settle_post state e) e
post_alike state e = record { visits = grind arith; posts = grind arith; answered = λ i. grind arith; drained = λ i. grind arith }

drain_alike : (i : ℕ) (e : Entry) → Alike (settle_drain i e) e
drain_alike i e = record { visits = grind arith; posts = grind arith; answered = λ j. grind arith; drained = λ j. grind arith }

map_alike : {Y : Type 0} (g : Entry → Option Y) (f : Entry → Entry) → ((e : Entry) → g (f e) ≡ g e) → (es : List Entry)
    → filter_map g (map f es) ≡ filter_map g es
map_alike g f same [] = refl
map_alike g f same (e ∷ es) = ap₂ cons_option (same e) (map_alike g f same es)

any_alike : (p : Entry → Bool) (f : Entry → Entry) → ((e : Entry) → p (f e) ≡ p e) → (es : List Entry) → list_any p (map f es) ≡ list_any p es
any_alike p f same [] = refl
any_alike p f same (e ∷ es) = ap₂ (λ a b. a || b) (same e) (any_alike p f same es)

count_alike : (i : ℕ) (f : Entry → Entry) → ((e : Entry) → answers i (f e) ≡ answers i e) → (es : List Entry) → answer_count i (map f es) ≡ answer_count i es
count_alike i f same [] = refl
count_alike i f same (e ∷ es) = ap₂ (λ a b. one a + b) (same e) (count_alike i f same es)

settles : (f : Entry → Entry) (es : List Entry) (o : Option Ask) → ((e : Entry) → Alike (f e) e)
    → asked (map f es) ≡ asked es ++ option_to_list o → Settles es (map f es) o
settles f es o same asks = record {
  asks = asks;
  visits = map_alike visit_of f (λ e. (same e).visits) es;
  posts = map_alike post_of f (λ e. (same e).posts) es;
  answered = λ i. any_alike (answers i) f (λ e. (same e).answered i) es;
  drained = λ i. any_alike (drains i) f (λ e. (same e).drained i) es;
  counts = λ i. count_alike i f (λ e. (same e).answered i) es;
  len = length-map es f;
}

-- where no entry asks for more
settles_none : (f : Entry → Entry) (es : List Entry) → ((e : Entry) → Alike (f e) e) → ((e : Entry) → ask_of (f e) ≡ ask_of e) → Settles es (map f es) None
settles_none f es same asks = settles f es None same (map_alike ask_of f asks es ∙ sym (append-nil (asked es)))

-- the place of the last visit stays
pub places_settled : (es : List Entry) (state : PreState) → last_place (map (settle_pre state) es) ≡ last_place es
places_settled es state = ap (λ (xs : List ℕ). slice_get (reverse xs) 0) (map_alike place_of (settle_pre state) (λ e. grind arith) es)

pub places_drained : (i : ℕ) (es : List Entry) → last_place (map (settle_drain i) es) ≡ last_place es
places_drained i es = ap (λ (xs : List ℕ). slice_get (reverse xs) 0) (map_alike place_of (settle_drain i) (λ e. grind arith) es)

-- ---- the entry of a callback in the midst of a list

settled_is : {V : Type 0} {kind : V → Entry} {from : Stage} {es : List Entry} {f : Entry → Entry} (e : Entry) (o : OpenAs kind from es)
    → Settling f → f (kind o.visit) ≡ e
    → map f es ≡ o.front ++ e ∷ o.back
settled_is {kind = kind} {f = f} e o closed is =
    ap (map f) o.split ∙ map-append f o.front (kind o.visit ∷ o.back) ∙ ap₂ (λ xs ys. xs ++ f (kind o.visit) ∷ ys) (o.stays f closed) (o.quiet.stays f closed)
    ∙ ap (λ x. o.front ++ x ∷ o.back) is

walk_settled : {V : Type 0} {kind : V → Entry} {from : Stage} {es fs : List Entry} (e : Entry) (u : Stage) (o : OpenAs kind from es)
    → fs ≡ o.front ++ e ∷ o.back → after from e ≡ Some u
    → way_of u ≡ u → walk Descending fs ≡ Some (way_of u)
walk_settled e u o is leads way =
    ap (walk Descending) is ∙ walk-append Descending o.front (e ∷ o.back) ∙ ap (option_and_then (λ v. walk v (e ∷ o.back))) o.way
    ∙ ap (option_and_then (λ v. walk v o.back)) leads ∙ o.quiet.walks u ∙ ap Some (sym way)

pub walks_to : (s : Stage) (es : List Entry) → IsCourse s es → way_of s ≡ s → walk Descending es ≡ Some s
walks_to s es c way = c.order ∙ ap Some way

-- ---- a preoperation

abbrev pub with_state : PreVisit → PreState → PreVisit
with_state visit state = record visit { state = state }

asked_mid : {es : List Entry} (o : OpenPre es) (visit : PreVisit)
    → asked (o.front ++ Pre visit ∷ o.back) ≡ asked o.front ++ option_to_list (ask_in visit visit.state)
asked_mid o visit = let q = o.quiet.asks in rw (filter_map-append, q) (grind arith)

-- it hasn't asked
unasked : {es : List Entry} (o : OpenPre es) → asked es ≡ asked o.front
unasked o =
    let none : ask_in o.visit o.visit.state ≡ None = grind (arith, o.unsettled) in
    ap asked o.split ∙ asked_mid o o.visit ∙ ap (λ m. asked o.front ++ option_to_list m) none ∙ append-nil (asked o.front)

no_drain_of_pre : (state : PreState) (es : List Entry) → HasItsDrain (pre_leads state) es
no_drain_of_pre pre.Running es = tt
no_drain_of_pre state es = tt

fresh_ask : (es : List Entry) (visit : PreVisit) (state : PreState) → answer_count visit.instance.0 es ≡ 0 → posted es ≡ [] → IsFresh es (ask_in visit state)
fresh_ask es visit (pre.Asked completion) none posts = (none, posts)
fresh_ask es visit (pre.Synchronized completion) none posts = (none, posts)
fresh_ask es visit state none posts = tt

-- so nothing answered it
open_unanswered : (s : Stage) (es : List Entry) (o : OpenPre es) → IsCourse s es → answer_count o.visit.instance.0 es ≡ 0
open_unanswered s es o c =
    let i = o.visit.instance.0 in
    let d = ap (times i) (ap visited o.split ∙ filter_map-append visit_of o.front (Pre o.visit ∷ o.back)
    ∙ ap (λ xs. visited o.front ++ i ∷ xs) o.quiet.visits) ∙ times-append i (visited o.front) (i ∷ []) in
    let same : one (i == i) ≡ 1 = grind (arith, nat_tests) in
    omega (arith, asked_among i o.front, ap (λ xs. times i (instances xs)) (unasked o), d, c.apart i, c.once i, same)

pub settled_pre_is : (es : List Entry) (state : PreState) (o : OpenPre es) → map (settle_pre state) es ≡ o.front ++ Pre (with_state o.visit state) ∷ o.back
settled_pre_is es state o = settled_is (Pre (with_state o.visit state)) o (settling_pre state)
    (ap (λ b. Pre (with_state o.visit (cond b state o.visit.state))) o.unsettled)

pub settles_pre : (es : List Entry) (state : PreState) (o : OpenPre es) → Settles es (map (settle_pre state) es) (ask_in (with_state o.visit state) state)
settles_pre es state o =
    let new = ask_in (with_state o.visit state) state in
    settles (settle_pre state) es new (pre_alike state)
    (ap asked (settled_pre_is es state o) ∙ asked_mid o (with_state o.visit state) ∙ ap (λ xs. xs ++ option_to_list new) (sym (unasked o)))

pub the_open_pre : (s : Stage) (es : List Entry) → IsCourse s es → is_pre s ≡ true → OpenPre es
the_open_pre s es c p = open_pre es s (walks_to s es c (grind arith)) p

pub fresh_of_open : (s : Stage) (es : List Entry) (state : PreState) (c : IsCourse s es) (p : is_pre s ≡ true)
    → IsFresh es (ask_in (with_state (the_open_pre s es c p).visit state) state)
fresh_of_open s es state c p =
    let o = the_open_pre s es c p in
    fresh_ask es (with_state o.visit state) state (open_unanswered s es o c) (no_posts Descending es s (walks_to s es c (grind arith)) (grind arith))

pub course_pre_settled : (s : Stage) (es : List Entry) (state : PreState) → is_pre s ≡ true → IsCourse s es
    → IsCourse (pre_leads state) (map (settle_pre state) es)
course_pre_settled s es state p c =
    let o = the_open_pre s es c p in
    let room : length (option_to_list (ask_in (with_state o.visit state) state)) + slack (pre_leads state) ≤ slack s = grind (arith, nat_tests) in
    course_settled s (pre_leads state) es (map (settle_pre state) es) (ask_in (with_state o.visit state) state)
    (settles_pre es state o) c (fresh_of_open s es state c p)
    (walk_settled (Pre (with_state o.visit state)) (pre_leads state) o (settled_pre_is es state o) refl (grind arith)) room
    (none_made (asked (map (settle_pre state) es)) (map (settle_pre state) es) ((settles_pre es state o).posts
    ∙ no_posts Descending es s (walks_to s es c (grind arith)) (grind arith))) (no_drain_of_pre state (map (settle_pre state) es))

-- ---- a postoperation

abbrev pub with_post : PostVisit → PostState → PostVisit
with_post visit state = record visit { state = state }

no_drain_of_post : (state : PostState) (es : List Entry) → HasItsDrain (post_leads state) es
no_drain_of_post post.Running es = tt
no_drain_of_post state es = tt

pub settled_post_is : (es : List Entry) (state : PostState) (o : OpenPost es) → map (settle_post state) es ≡ o.front ++ Post (with_post o.visit state) ∷ o.back
settled_post_is es state o = settled_is (Post (with_post o.visit state)) o (settling_post state)
    (ap (λ b. Post (with_post o.visit (cond b state o.visit.state))) o.unsettled)

pub settles_post : (es : List Entry) (state : PostState) → Settles es (map (settle_post state) es) None
settles_post es state = settles_none (settle_post state) es (post_alike state) (λ e. grind arith)

pub the_open_post : (s : Stage) (es : List Entry) → IsCourse s es → is_post s ≡ true → OpenPost es
the_open_post s es c p = open_post es s (walks_to s es c (grind arith)) p

pub course_post_settled : (s : Stage) (es : List Entry) (state : PostState) → is_post s ≡ true → IsCourse s es
    → IsCourse (post_leads state) (map (settle_post state) es)
course_post_settled s es state p c =
    let o = the_open_post s es c p in
    let room : 0 + slack (post_leads state) ≤ slack s = grind (arith, nat_tests) in
    course_settled s (post_leads state) es (map (settle_post state) es) None (settles_post es state) c tt
    (walk_settled (Post (with_post o.visit state)) (post_leads state) o (settled_post_is es state o) refl (grind arith)) room
    (made_post state es (map_alike ask_of (settle_post state) (λ e. grind arith) es) c.synchronized) (no_drain_of_post state (map (settle_post state) es))

-- ---- a drain

pub settles_drain : (i : ℕ) (es : List Entry) → Settles es (map (settle_drain i) es) None
settles_drain i es = settles_none (settle_drain i) es (drain_alike i) (λ e. grind arith)

drain_walks : (i : ℕ) (s : Stage) (es : List Entry) → walk s (map (settle_drain i) es) ≡ walk s es
drain_walks i s [] = refl
drain_walks i s (e ∷ es) =
    let same : after s (settle_drain i e) ≡ after s e = grind arith in
    rw same (elim (after s e) as (λ o. option_and_then (λ t. walk t (map (settle_drain i) es)) o ≡ option_and_then (λ t. walk t es) o)
    [ None ↦ refl | Some u ↦ drain_walks i u es ])

-- a drain is over
pub course_drain_over : (i : ℕ) (s t : Stage) (es : List Entry) → way_of t ≡ way_of s → slack t ≤ slack s
    → HasItsDrain t (map (settle_drain i) es) → IsCourse s es → IsCourse t (map (settle_drain i) es)
course_drain_over i s t es way less drain c =
    course_settled s t es (map (settle_drain i) es) None (settles_drain i es) c tt (drain_walks i Descending es ∙ c.order
    ∙ ap Some (sym way)) (omega (arith, less))
    (made_drain i es (map_alike ask_of (settle_drain i) (λ e. grind arith) es) c.synchronized) drain

-- one that `next` gave
pub course_drain_settled : (i : InstanceId) (es : List Entry) → IsCourse (InDrain i) es → IsCourse Ascending (map (settle_drain i.0) es)
course_drain_settled i es c = course_drain_over i.0 (InDrain i) Ascending es refl (omega arith) tt c
