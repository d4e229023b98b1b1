-- What the order of entries says: where the callback stands that runs or holds, and what may follow it.
use Rattle.fm_operations.proofs.Words.{ℕ, Bool, true, false, List, [], map, Option, Some, None, option_to_list, slice_get, reverse}
use Rattle.fm_operations.proofs.Words.{append-nil, inl, inr, refl, sym, ap, ap₂, arith, common_steps, cases_Bool}
use Rattle.fm_operations.proofs.Words.{Stage, Descending, PreRunning, PreHeld, Ascending, PostRunning, PostHeld, PreState, PostState, PreVisit}
use Rattle.fm_operations.proofs.Words.{PostVisit, Entry, Pre, Post, Drain, visited, asked, posted, settle_pre}
use Rattle.fm_operations.proofs.Words.{settle_post, walk, is_open, after}
use Rattle.std.proofs.Common.{◌≡◌, ◌∷◌, ◌++◌, ◌∙◌, ◌||◌, ◌⊎◌, option_and_then}
use Rattle.std.specs.Option.{option_or}

pub walk-append : (s : Stage) (es fs : List Entry) → walk s (es ++ fs) ≡ option_and_then (λ t. walk t fs) (walk s es)
walk-append s [] fs = refl
walk-append s (e ∷ es) fs = elim (after s e) as (λ o. option_and_then (λ t. walk t (es ++ fs)) o
    ≡ option_and_then (λ t. walk t fs) (option_and_then (λ t. walk t es) o)) [ None ↦ refl | Some u ↦ walk-append u es fs ]

pub walk_push : (s : Stage) (es : List Entry) (e : Entry) (t u : Stage) → walk s es ≡ Some t → after t e ≡ Some u → walk s (es ++ e ∷ []) ≡ Some u
walk_push s es e t u w a = walk-append s es (e ∷ []) ∙ rw (w, a) refl

-- the first entry leads somewhere, and the others on from there
pub walk_parts : (s : Stage) (e : Entry) (es : List Entry) (t : Stage) → walk s (e ∷ es) ≡ Some t → (u : Stage) × (after s e ≡ Some u) × (walk u es ≡ Some t)
walk_parts s e es t w = elim (after s e) as (λ o. option_and_then (λ u. walk u es) o ≡ Some t → (u : Stage) × (o ≡ Some u)
    × (walk u es ≡ Some t)) [ None ↦ λ v. cc | Some u ↦ λ v. (u, refl, v) ] w

-- ---- kinds of stages

-- a preoperation runs or holds; a postoperation; either
abbrev pub is_pre : Stage → Bool
is_pre PreRunning = true
is_pre PreHeld = true
is_pre _ = false

abbrev pub is_post : Stage → Bool
is_post PostRunning = true
is_post PostHeld = true
is_post _ = false

abbrev pub is_callback : Stage → Bool
is_callback s = is_pre s || is_post s

-- on the way down
abbrev pub is_down : Stage → Bool
is_down Descending = true
is_down s = is_pre s

-- ---- nothing goes back down

up_after : (s : Stage) (e : Entry) (u : Stage) → is_down s ≡ false → after s e ≡ Some u → is_down u ≡ false
up_after s e u up k = grind arith

up_stays : (s : Stage) (es : List Entry) (t : Stage) → is_down s ≡ false → walk s es ≡ Some t → is_down t ≡ false
up_stays s [] t up w = cc
up_stays s (e ∷ es) t up w = let k = walk_parts s e es t w in up_stays k.0 es t (up_after s e k.0 up k.1) k.2

posts_up : (s : Stage) (e : Entry) (es : List Entry) (u : Stage) → after s e ≡ Some u → posted es ≡ [] → (posted (e ∷ es) ≡ []) ⊎ (is_down u ≡ false)
posts_up s (Post visit) es u k none = inr (grind arith)
posts_up s e es u k none = inl none

-- on the way down there is no postoperation
pub no_posts : (s : Stage) (es : List Entry) (t : Stage) → walk s es ≡ Some t → is_down t ≡ true → posted es ≡ []
no_posts s [] t w d = refl
no_posts s (e ∷ es) t w d =
    let k = walk_parts s e es t w in
    elim (posts_up s e es k.0 k.1 (no_posts k.0 es t k.2 d)) [ inl none ↦ none | inr up ↦ let h = up_stays k.0 es t up k.2 in cc ]

-- ---- what a callback's return leaves alone

-- a change of open entries alone
abbrev pub Settling : (Entry → Entry) → Type 0
Settling f = (e : Entry) → is_open e ≡ false → f e ≡ e

pub settling_pre : (state : PreState) → Settling (settle_pre state)
settling_pre state e closed = grind arith

pub settling_post : (state : PostState) → Settling (settle_post state)
settling_post state e closed = grind arith

-- only drains follow a callback that runs or holds
pub record Quiet (es : List Entry) : Type 0 where
  pub asks : asked es ≡ []
  pub visits : visited es ≡ []
  pub posts : posted es ≡ []
  pub walks : (s : Stage) → walk s es ≡ Some s
  pub stays : (f : Entry → Entry) → Settling f → map f es ≡ es

pub drains_follow : (s : Stage) (es : List Entry) (t : Stage) → walk s es ≡ Some t → is_callback s ≡ true → Quiet es
drains_follow s [] t w k = record { asks = refl; visits = refl; posts = refl; walks = λ s. refl; stays = λ f g. refl }
drains_follow s (Drain visit ∷ es) t w k =
    let q = drains_follow s es t w k in
    record { asks = q.asks; visits = q.visits; posts = q.posts; walks = q.walks; stays = λ f g. ap₂ (λ e fs. e ∷ fs) (g (Drain visit) refl) (q.stays f g) }
drains_follow s (e ∷ es) t w k = absurd (grind arith)

-- ---- the callback that runs or holds

-- its entry, before it only closed ones that lead to it, after it only drains
pub record Open (s : Stage) (es : List Entry) (t : Stage) : Type 0 where
  pub front : List Entry
  pub entry : Entry
  pub back : List Entry
  pub from : Stage
  pub split : es ≡ front ++ entry ∷ back
  pub way : walk s front ≡ Some from
  pub calm : is_callback from ≡ false
  pub leads : after from entry ≡ Some t
  pub stays : (f : Entry → Entry) → Settling f → map f front ≡ front
  pub quiet : Quiet back

-- an entry is open where it leads to a callback
pub opens_after : (s : Stage) (e : Entry) (u : Stage) → after s e ≡ Some u → is_callback s ≡ false → is_open e ≡ is_callback u
opens_after s e u k calm = grind arith

open_walk : (s : Stage) (es : List Entry) (t : Stage) → walk s es ≡ Some t → is_callback t ≡ true → is_callback s ≡ false → Open s es t
open_walk s [] t w p q = cc
open_walk s (e ∷ es) t w p q =
    let k = walk_parts s e es t w in
    elim (cases_Bool (is_callback k.0)) [
      | inl now ↦
          let quiet = drains_follow k.0 es t k.2 now in
          record {
            front = [];
            entry = e;
            back = es;
            from = s;
            split = refl;
            way = refl;
            calm = q;
            leads = k.1 ∙ sym (quiet.walks k.0)
                ∙ k.2;
            stays = λ f g. refl;
            quiet = quiet;
          }
      | inr later ↦
          let o = open_walk k.0 es t k.2 p later in
          record {
            front = e ∷ o.front;
            entry = o.entry;
            back = o.back;
            from = o.from;
            split = ap (λ fs. e ∷ fs) o.split;
            way = rw k.1 o.way;
            calm = o.calm;
            leads = o.leads;
            stays = λ f g. ap₂ (λ x fs. x ∷ fs) (g e (opens_after s e k.0 k.1 q ∙ later)) (o.stays f g);
            quiet = o.quiet;
          }
    ]

-- the same where the entry's kind is known
pub record OpenAs {V : Type 0} (kind : V → Entry) (from : Stage) (es : List Entry) : Type 0 where
  pub front : List Entry
  pub visit : V
  pub back : List Entry
  pub split : es ≡ front ++ kind visit ∷ back
  pub unsettled : is_open (kind visit) ≡ true
  pub way : walk Descending front ≡ Some from
  pub stays : (f : Entry → Entry) → Settling f → map f front ≡ front
  pub quiet : Quiet back

opened : {V : Type 0} {kind : V → Entry} {from : Stage} {es : List Entry} {t : Stage} (o : Open Descending es t) (visit : V)
    → o.entry ≡ kind visit → o.from ≡ from → is_callback t ≡ true
    → OpenAs kind from es
opened {es = es} o visit is at p = record {
  front = o.front;
  visit = visit;
  back = o.back;
  split = o.split ∙ ap (λ e. o.front ++ e ∷ o.back) is;
  unsettled = ap is_open (sym is) ∙ opens_after o.from o.entry _ o.leads o.calm ∙ p;
  way = o.way ∙ ap Some at;
  stays = o.stays;
  quiet = o.quiet;
}

-- a preoperation leads there on the way down, or a postoperation on the way up
entered : (s : Stage) (e : Entry) (t : Stage) → after s e ≡ Some t → is_callback t ≡ true → is_callback s ≡ false
    → ((visit : PreVisit) × (e ≡ Pre visit) × (s ≡ Descending) × (is_post t ≡ false))
    ⊎ ((visit : PostVisit) × (e ≡ Post visit) × (s ≡ Ascending) × (is_pre t ≡ false))
entered Descending (Pre visit) t k p q = inl (visit, refl, refl, grind arith)
entered Ascending (Post visit) t k p q = inr (visit, refl, refl, grind arith)
entered s e t k p q = absurd (grind arith)

abbrev pub OpenPre : List Entry → Type 0
OpenPre es = OpenAs Pre Descending es

pub open_pre : (es : List Entry) (t : Stage) → walk Descending es ≡ Some t → is_pre t ≡ true → OpenPre es
open_pre es t w p =
    let called : is_callback t ≡ true = grind arith in let o = open_walk Descending es t w called refl in
    elim (entered o.from o.entry t o.leads called o.calm) [ inl e ↦ opened o e.0 e.1 e.2 called | inr e ↦ let h = e.3 in cc ]

abbrev pub OpenPost : List Entry → Type 0
OpenPost es = OpenAs Post Ascending es

pub open_post : (es : List Entry) (t : Stage) → walk Descending es ≡ Some t → is_post t ≡ true → OpenPost es
open_post es t w p =
    let called : is_callback t ≡ true = grind arith in let o = open_walk Descending es t w called refl in
    elim (entered o.from o.entry t o.leads called o.calm) [ inl e ↦ let h = e.3 in cc | inr e ↦ opened o e.0 e.1 e.2 called ]

-- ---- the instance that was visited last, entry by entry

pub last_with : (xs : List ℕ) (o : Option ℕ) → slice_get (reverse (xs ++ option_to_list o)) 0 ≡ option_or o (slice_get (reverse xs) 0)
last_with xs o = grind (arith, append-nil xs, common_steps)
