-- Operations that a callback holds: which entry says so, and where the operation stands then.
use Rattle.fm_operations.proofs.Words.{ℕ, true, false, List, [], Option, Some, None, refl, sym, ap, arith, false≢true, cases_Bool, inl, inr}
use Rattle.fm_operations.proofs.Words.{Stage, Descending, PreHeld, PostHeld, Ascending, Entry, Pre, Post, FlowRecord, IsCourse, IsSound, walk, way_of}
use Rattle.fm_operations.proofs.Words.{visited, posted, last_visited, last_posted, list_any, is_open, same_Some, pre_leads, post_leads}
use Rattle.std.proofs.Common.{◌≡◌, ◌∷◌, ◌++◌, ◌∙◌, option_and_then}
use Rattle.std.proofs.lemmas.List.Folds.{list_any-append}
use Rattle.fm_operations.specs.declared.hold.Hold.{Hold}
use Rattle.fm_operations.specs.declared.hold.Hold.TheVariants as hold
use Rattle.fm_operations.specs.Holds.{is_held, holder_at, holds_at, same_number, IsFirstHeld}
use Rattle.fm_types.specs.declared.ids.OpId.{OpId}
use Rattle.fm_operations.proofs.Words.{FlowTable, IsAscending, find, option_map, unwrap_or, subst}
use Rattle.fm_types.proofs.Firsts.{found_passes}
use Rattle.fm_operations.proofs.Lowest.{none_passes, lowest_passes, found_by_number}
use Rattle.fm_operations.proofs.Walks.{Quiet, walk-append, walk_parts, is_callback, is_pre, is_post, drains_follow, opens_after}
use Rattle.fm_operations.proofs.Settled.{the_open_pre, the_open_post, walks_to}
use Rattle.fm_operations.proofs.Counting.{last_of_open_pre, last_of_open_post}

-- entries without a callback of an instance hold nothing
unheld : (kind : Hold) (i : ℕ) (es : List Entry) → visited es ≡ [] → posted es ≡ [] → list_any (holds_at kind i) es ≡ false
unheld kind i [] v p = refl
unheld kind i (Pre visit ∷ es) v p = cc
unheld kind i (Post visit ∷ es) v p = cc
unheld kind i (e ∷ es) v p = grind (arith, unheld kind i es v p)

closed : (kind : Hold) (i : ℕ) (e : Entry) → is_open e ≡ false → holds_at kind i e ≡ false
closed kind i e h = grind arith

-- neither do those that lead to no callback
closed_held : (kind : Hold) (i : ℕ) (s : Stage) (es : List Entry) (t : Stage) → walk s es ≡ Some t → is_callback s ≡ false
    → is_callback t ≡ false → list_any (holds_at kind i) es ≡ false
closed_held kind i s [] t w p q = refl
closed_held kind i s (e ∷ es) t w p q =
    let k = walk_parts s e es t w in
    elim (cases_Bool (is_callback k.0)) [
      | inl now ↦ let same = same_Some t k.0 (sym k.2 ∙ (drains_follow k.0 es t k.2 now).walks k.0) in absurd (false≢true (sym q ∙ ap is_callback same ∙ now))
      | inr later ↦ rw (closed kind i e (opens_after s e k.0 k.1 p ∙ later)) (closed_held kind i k.0 es t k.2 later q)
    ]

-- so the one that runs or holds says it
mid_held : (kind : Hold) (i : ℕ) (from : Stage) (es front : List Entry) (e : Entry) (back : List Entry) → es ≡ front ++ e ∷ back
    → walk Descending front ≡ Some from
    → is_callback from ≡ false → Quiet back → list_any (holds_at kind i) es ≡ holds_at kind i e
mid_held kind i from es front e back split way calm quiet =
    ap (list_any (holds_at kind i)) split ∙ list_any-append (holds_at kind i) front (e ∷ back)
    ∙ grind (arith, closed_held kind i Descending front from way refl calm, unheld kind i back quiet.visits quiet.posts)

held_in_pre : (kind : Hold) (i : ℕ) (s : Stage) (es : List Entry) → IsCourse s es → is_pre s ≡ true
    → list_any (holds_at kind i) es ≡ same_number i (holder_at kind s (last_visited es) (last_posted es))
held_in_pre kind i s es c p =
    let o = the_open_pre s es c p in
    let here = mid_held kind i Descending es o.front (Pre o.visit) o.back o.split o.way refl o.quiet in
    let leads : s ≡ pre_leads o.visit.state = same_Some s (pre_leads o.visit.state) (sym (walks_to s es c (grind arith)) ∙ ap (walk Descending) o.split
    ∙ walk-append Descending o.front (Pre o.visit ∷ o.back) ∙ ap (option_and_then (λ v. walk v (Pre o.visit ∷ o.back))) o.way
    ∙ o.quiet.walks (pre_leads o.visit.state)) in
    here ∙ grind (arith, leads, o.unsettled, last_of_open_pre es o)

held_in_post : (kind : Hold) (i : ℕ) (s : Stage) (es : List Entry) → IsCourse s es → is_post s ≡ true
    → list_any (holds_at kind i) es ≡ same_number i (holder_at kind s (last_visited es) (last_posted es))
held_in_post kind i s es c p =
    let o = the_open_post s es c p in
    let here = mid_held kind i Ascending es o.front (Post o.visit) o.back o.split o.way refl o.quiet in
    let leads : s ≡ post_leads o.visit.state = same_Some s (post_leads o.visit.state) (sym (walks_to s es c (grind arith)) ∙ ap (walk Descending) o.split
    ∙ walk-append Descending o.front (Post o.visit ∷ o.back) ∙ ap (option_and_then (λ v. walk v (Post o.visit ∷ o.back))) o.way
    ∙ o.quiet.walks (post_leads o.visit.state)) in
    here ∙ grind (arith, leads, o.unsettled, last_of_open_post es o)

pub held_there : (kind : Hold) (i : ℕ) (s : Stage) (es : List Entry) → IsCourse s es
    → list_any (holds_at kind i) es ≡ same_number i (holder_at kind s (last_visited es) (last_posted es))
held_there kind i s es c =
    elim (cases_Bool (is_pre s)) [
      | inl down ↦ held_in_pre kind i s es c down
      | inr other ↦ elim (cases_Bool (is_post s)) [
        | inl up ↦ held_in_post kind i s es c up
        | inr neither ↦
            let calm : is_callback (way_of s) ≡ false = grind arith in
            let none : holder_at kind s (last_visited es) (last_posted es) ≡ None = grind arith in
            closed_held kind i Descending es (way_of s) c.order refl calm ∙ sym (ap (same_number i) none)
      ]
    ]

-- a held operation stands so, and the instance was visited last
pub held_pre : (i : ℕ) (r : FlowRecord) → IsSound r → is_held hold.Pre i r ≡ true → (r.stage ≡ PreHeld) × (last_visited r.entries ≡ Some i)
held_pre i r s h = stands r.stage (last_visited r.entries) (last_posted r.entries) (sym (held_there hold.Pre i r.stage r.entries s.course) ∙ h)
  where
    stands : (t : Stage) (down up : Option ℕ) → same_number i (holder_at hold.Pre t down up) ≡ true → (t ≡ PreHeld) × (down ≡ Some i)
    stands t down up h = grind arith

pub held_post : (i : ℕ) (r : FlowRecord) → IsSound r → is_held hold.Post i r ≡ true → (r.stage ≡ PostHeld) × (last_posted r.entries ≡ Some i)
held_post i r s h = stands r.stage (last_visited r.entries) (last_posted r.entries) (sym (held_there hold.Post i r.stage r.entries s.course) ∙ h)
  where
    stands : (t : Stage) (down up : Option ℕ) → same_number i (holder_at hold.Post t down up) ≡ true → (t ≡ PostHeld) × (up ≡ Some i)
    stands t down up h = grind arith

-- ---- the first that is held

first_of_held : (kind : Hold) (i : ℕ) (t : FlowTable) (m : Option FlowRecord) → IsAscending t.operations → find (is_held kind i) t.operations ≡ m
    → IsFirstHeld kind i t (option_map (λ (r : FlowRecord). r.number) m)
first_of_held kind i t None rises is = none_passes (is_held kind i) t.operations is
first_of_held kind i t (Some r) rises is = (
  ap (λ m. unwrap_or (option_map (is_held kind i) m) false) (found_by_number (λ (x : FlowRecord). x.number.0) (is_held kind i) t.operations r rises is)
      ∙ found_passes (is_held kind i) t.operations r is,
  lowest_passes (λ (x : FlowRecord). x.number.0) (is_held kind i) t.operations r rises is,
)

pub first_told : {t now : FlowTable} (kind : Hold) (i : ℕ) (rs : List FlowRecord) (m : Option FlowRecord) (o : Option OpId) → t ≡ now → rs ≡ t.operations
    → IsAscending t.operations → m ≡ find (is_held kind i) rs → o ≡ option_map (λ (r : FlowRecord). r.number) m → IsFirstHeld kind i now o
first_told {t} {now} kind i rs m o now_is items rises found number =
    subst (IsFirstHeld kind i now) (sym number)
    (subst (λ (u : FlowTable). IsFirstHeld kind i u (option_map (λ (r : FlowRecord). r.number) m)) now_is
    (first_of_held kind i t m rises (ap (find (is_held kind i)) (sym items) ∙ sym found)))
