-- Who may hold what, and what a context names is there: what changes of contexts, instances and workers leave of both.
use Rattle.fm_world.proofs.Words.{by_id, is_id-same, context_at-swept, context_at-here, context_at-other, context_at-placed_other, new_absent, holds, is_id}
use Rattle.fm_world.proofs.Words.{without, IsNew, placed, with_link, same_owner, swept, swept_slot, change_context, changed_slot, context_at, context_in}
use Rattle.fm_world.proofs.Words.{All-updated, updated-other, updated-same, AskCarries, HoldsIn, belongs, fits, holds_links_by, is_left_by, keeps_links_by}
use Rattle.fm_world.proofs.Words.{link_fits, may_link, owner_fits, place_in, row_at, Context, ContextKind, CtxId, FlowRecord, Instance, InstanceId, Object}
use Rattle.fm_world.proofs.Words.{Owner, Slot, StackWorld, WorkerId, hand_of, owed, updated, worker_at, Place, All, Bool, List, None, Option, Some, [], ap}
use Rattle.fm_world.proofs.Words.{arith, cond, false, get_or, inl, inr, is_some, length, map, option_and_then, option_map, refl, slice_get, slice_set, subst}
use Rattle.fm_world.proofs.Words.{sym, true, ℕ, ◌<◌, ◌==◌, ◌||◌, ◌∙◌, ◌∷◌, ◌≡◌, ◌≢◌, ◌≤◌, cases_eq, false≢true, common_steps, All-cons, All-head, All-map}
use Rattle.fm_world.proofs.Words.{All-nil, All-tail, All-weaker, get_or-set_other, get_or-set_same, none-some}
use Rattle.fm_world.proofs.Cases.{by_bool, by_option}

-- ---- contexts keep their kind and owner

abbrev pub OwnersStay : List Slot → List Slot → Type 0
OwnersStay old new = (c : CtxId) (x : Context) → context_at old c ≡ Some x
    → (y : Context) × (context_at new c ≡ Some y) × (y.kind ≡ x.kind) × (y.owner ≡ x.owner)

pub owners_same : (old new : List Slot) → new ≡ old → OwnersStay old new
owners_same old new e c x h = (x, ap (λ (slots : List Slot). context_at slots c) e ∙ h, refl, refl)

pub owners_changed : (g : Context → Context) (slots : List Slot) (c : CtxId) → ((x : Context) → ((g x).kind ≡ x.kind) × ((g x).owner ≡ x.owner))
    → OwnersStay slots (change_context (option_map g) slots c)
owners_changed g slots c keeps d x h =
    by_id (λ e. (x : Context) → context_at slots e ≡ Some x
    → (y : Context) × (context_at (change_context (option_map g) slots c) e ≡ Some y) × (y.kind ≡ x.kind) × (y.owner ≡ x.owner)) c
    (λ x h. (g x, context_at-here (option_map g) slots c refl ∙ ap (option_map g) h, (keeps x).0, (keeps x).1))
    (λ e other x h. (x, context_at-other (option_map g) slots c e other ∙ h, refl, refl)) d x h

pub owners_after : (a b c : List Slot) → OwnersStay a b → OwnersStay b c → OwnersStay a c
owners_after a b c h3 h4 = grind arith

pub owners_placed : (slots : List Slot) (c : CtxId) (x : Context) → IsNew slots c → OwnersStay slots (placed slots c x)
owners_placed slots c x new d y h =
    by_bool (λ b. is_id d c ≡ b → (z : Context) × (context_at (placed slots c x) d ≡ Some z) × (z.kind ≡ y.kind) × (z.owner ≡ y.owner)) (is_id d c)
    (λ _ same. absurd (none-some y (sym (new_absent slots c new) ∙ ap (context_at slots) (is_id-same d c same) ∙ h)))
    (λ _ other. (y, context_at-placed_other slots c x d new other ∙ h, refl, refl)) refl

swept_stays : (test : Context → Bool) (x : Context) → ((swept test x).kind ≡ x.kind) × ((swept test x).owner ≡ x.owner)
swept_stays test x = grind arith

pub owners_swept : (test : Context → Bool) (slots : List Slot) → OwnersStay slots (map (swept_slot test) slots)
owners_swept test slots c x h =
    (swept test x, context_at-swept test slots c ∙ ap (option_map (swept test)) h, (swept_stays test x).0, (swept_stays test x).1)

-- ---- instances keep their filter

abbrev pub FiltersStay : StackWorld → StackWorld → Type 0
FiltersStay s t = (i : ℕ) (row : Instance) → slice_get s.instances i ≡ Some row → (after : Instance)
    × (slice_get t.instances i ≡ Some after) × (after.filter ≡ row.filter)

pub filters_same : (s : StackWorld) → FiltersStay s s
filters_same s i row h = (row, h, refl)

-- where one instance changes, and keeps its filter
pub filters_updated : (s t : StackWorld) (change : Instance → Instance) (i : ℕ) → t.instances ≡ updated change s.instances i
    → ((row : Instance) → (change row).filter ≡ row.filter)
    → FiltersStay s t
filters_updated s t change i is keeps j row there =
    elim (cases_eq j i) [
      | inl e ↦ (
        change row,
        ap (λ (rows : List Instance). slice_get rows j) is ∙ subst (λ n. slice_get (updated change s.instances i) n ≡ Some (change row)) (sym e)
            (updated-same change s.instances i row (ap (slice_get s.instances) (sym e) ∙ there)),
        keeps row,
      )
      | inr apart ↦ (row, ap (λ (rows : List Instance). slice_get rows j) is ∙ updated-other change s.instances i j apart ∙ there, refl)
    ]

-- what a callback may hold, it may hold still
abbrev pub BelongsStill : StackWorld → List Slot → StackWorld → List Slot → Type 0
BelongsStill s old t new = (i : InstanceId) (c : CtxId) → belongs s old i c ≡ true → belongs t new i c ≡ true

pub belongs_still : (s : StackWorld) (old : List Slot) (t : StackWorld) (new : List Slot) → FiltersStay s t → OwnersStay old new → BelongsStill s old t new
belongs_still s old t new h4 h5 = grind arith

-- ---- hands

-- a fact on each context of a hand holds of one that is there
pub held_has : (P : CtxId → Type 0) (ids : List CtxId) (c : CtxId) → All P ids → holds ids c ≡ true → P c
unfolding holds
held_has P [] c all h = absurd (false≢true h)
held_has P (d ∷ ids) c all h =
    by_bool (λ b. b || holds ids c ≡ true → P c) (is_id c d) (λ e _. subst P (is_id-same c d e) (All-head P d ids all))
    (λ e later. held_has P ids c (All-tail P d ids all) later) h

pub all_without : (P : CtxId → Type 0) (c : CtxId) (ids : List CtxId) → All P ids → All P (without c ids)
unfolding without
all_without P c [] all = All-nil P
all_without P c (d ∷ ids) all =
    by_bool (λ b. All P (cond b ids (d ∷ without c ids))) (is_id c d) (λ e. All-tail P d ids all)
    (λ e. All-cons P d (without c ids) (All-head P d ids all) (all_without P c ids (All-tail P d ids all)))

-- the hands of all workers, by the places of these
abbrev pub AllHold : StackWorld → List Slot → List Place → List (List CtxId) → Type 0
AllHold s slots workers hands = (k : WorkerId) → All (HoldsIn s slots (place_in (worker_at workers k))) (hand_of hands k.0)

-- no worker goes elsewhere, and no hand changes
pub all_hold_still : (s : StackWorld) (old : List Slot) (t : StackWorld) (new : List Slot) (workers : List Place) (hands : List (List CtxId))
    → BelongsStill s old t new → AllHold s old workers hands → AllHold t new workers hands
all_hold_still s old t new workers hands h6 h7 = grind arith

holds_still : (s : StackWorld) (old : List Slot) (t : StackWorld) (new : List Slot) → BelongsStill s old t new → (m : Option InstanceId) (c : CtxId)
    → HoldsIn s old m c → HoldsIn t new m c
holds_still s old t new still None c h = h
holds_still s old t new still (Some i) c h = still i c h

hold_set : (P Q : Option Place → CtxId → Type 0) (workers after : List Place) (hands : List (List CtxId)) (w : ℕ) (hand : List CtxId) → w < length hands
    → ((m : Option Place) (c : CtxId) → P m c → Q m c) → ((k : ℕ) → k ≢ w → slice_get after k ≡ slice_get workers k) → All (Q (slice_get after w)) hand
    → ((k : WorkerId) → All (P (worker_at workers k)) (hand_of hands k.0)) → (k : WorkerId) → All (Q (worker_at after k)) (hand_of (slice_set hands w hand) k.0)
hold_set P Q workers after hands w hand inside still stays here all k = elim (cases_eq k.0 w) [
  | inl same ↦
      let own = ap (hand_of (slice_set hands w hand)) same ∙ get_or-set_same hands w hand [] inside in
      subst (λ (cs : List CtxId). All (Q (slice_get after k.0)) cs) (sym own) (subst (λ n. All (Q (slice_get after n)) hand) (sym same) here)
  | inr apart ↦
      subst (λ (cs : List CtxId). All (Q (slice_get after k.0)) cs) (sym (get_or-set_other hands w k.0 hand [] apart))
      (subst (λ m. All (Q m) (hand_of hands k.0)) (sym (stays k.0 apart))
      (All-weaker (P (worker_at workers k)) (Q (worker_at workers k)) (λ c h. still (worker_at workers k) c h) (hand_of hands k.0) (all k)))
]

-- one worker goes elsewhere, with another hand; all others stay
pub all_hold : (s : StackWorld) (old : List Slot) (t : StackWorld) (new : List Slot) (workers after : List Place)
    (hands : List (List CtxId)) (w : ℕ) (hand : List CtxId)
    → w < length hands → BelongsStill s old t new → ((k : ℕ) → k ≢ w → slice_get after k ≡ slice_get workers k)
    → All (HoldsIn t new (place_in (slice_get after w))) hand → AllHold s old workers hands → AllHold t new after (slice_set hands w hand)
all_hold s old t new workers after hands w hand inside still stays here all =
    hold_set (λ m. HoldsIn s old (place_in m)) (λ m. HoldsIn t new (place_in m)) workers after hands w hand inside
    (λ m c. holds_still s old t new still (place_in m) c) stays here all

-- ---- completions

abbrev pub AllCarry : StackWorld → List Slot → List FlowRecord → Type 0
AllCarry s slots operations = All (λ (r : FlowRecord). All (AskCarries s slots) (owed r.entries)) operations

pub all_carry_still : (s : StackWorld) (old : List Slot) (t : StackWorld) (new : List Slot) (operations : List FlowRecord) → BelongsStill s old t new
    → AllCarry s old operations → AllCarry t new operations
all_carry_still s old t new operations h5 h6 = grind arith

-- a test of all contexts
abbrev pub AllPass : (Option Context → Bool) → List Slot → Type 0
AllPass p slots = All (λ (x : Slot). p x.context ≡ true) slots

abbrev pub AllFit : StackWorld → List Slot → Type 0
AllFit s slots = AllPass (fits s) slots

-- ---- contexts change

-- the context that an id names, where the slot has that generation
there_in : (slots : List Slot) (c : CtxId) (x : Slot) → slice_get slots c.slot ≡ Some x → (c.generation == x.generation) ≡ true → context_at slots c ≡ x.context
unfolding context_at
there_in slots c x h same = ap (option_and_then (context_in c)) h ∙ ap (λ b. cond b x.context None) same

pub passes_changed : (p : Option Context → Bool) (f : Option Context → Option Context) (slots : List Slot) (c : CtxId) → f None ≡ None
    → ((x : Context) → context_at slots c ≡ Some x → p (Some x) ≡ true → p (f (Some x)) ≡ true)
    → AllPass p slots → AllPass p (change_context f slots c)
passes_changed p f slots c none keeps h =
    All-updated (λ (x : Slot). p x.context ≡ true) (λ (x : Slot). p x.context ≡ true) (changed_slot f c) slots c.slot h (λ x there fit.
    by_bool (λ b. p (cond b (record x { context = f x.context }) x).context ≡ true) (c.generation == x.generation)
    (λ same. by_option (λ o. p (f o) ≡ true) x.context (λ is. ap p (none ∙ sym is) ∙ fit)
    (λ y is. keeps y (there_in slots c x there same ∙ is) (sym (ap p is) ∙ fit)))
    (λ apart. fit)) (λ k x other there fit. fit)

pub passes_placed : (p : Option Context → Bool) (slots : List Slot) (c : CtxId) (x : Context) → p (Some x) ≡ true → AllPass p slots
    → AllPass p (placed slots c x)
passes_placed p slots c x fit h = grind (arith, common_steps)

pub fits_unlinked : (s : StackWorld) (x : Context) → fits s (Some x) ≡ true → fits s (Some (with_link None x)) ≡ true
fits_unlinked s x h = grind arith

-- the link of a context that fits is put in place
pub fits_linked : (s : StackWorld) (x : Context) (o : Object) → link_fits s x (Some o) ≡ true → fits s (Some x) ≡ true
    → fits s (Some (with_link (Some o) x)) ≡ true
fits_linked s x o link h = grind arith

pub passes_swept : (p q : Option Context → Bool) (test : Context → Bool) (slots : List Slot) → q None ≡ true
    → ((x : Context) → p (Some x) ≡ true → q (Some (swept test x)) ≡ true) → AllPass p slots → AllPass q (map (swept_slot test) slots)
passes_swept p q test slots none keeps h =
    All-map (λ (x : Slot). q x.context ≡ true) (swept_slot test) slots (λ k d l.
    by_option (λ o. p o ≡ true → q (option_map (swept test) o) ≡ true) (get_or slots k d).context (λ _ _. none) (λ x _. keeps x) (h k d l))

-- ---- instances change

pub owner_stays : (s t : StackWorld) (k : ContextKind) (o : Owner) → length s.filters ≤ length t.filters
    → ((j : InstanceId) → o ≡ Owner.Instance j → is_left_by (row_at s j) ≡ true → is_left_by (row_at t j) ≡ true)
    → owner_fits s k o ≡ true → owner_fits t k o ≡ true
owner_stays s t k o more left h = grind arith

-- no volume's contexts are unlinked
abbrev pub VolumesStay : StackWorld → StackWorld → Type 0
VolumesStay s t = (v : ℕ) → holds_links_by (slice_get s.volumes v) ≡ true → holds_links_by (slice_get t.volumes v) ≡ true

pub link_stays : (s t : StackWorld) (x : Context) (l : Option Object) → VolumesStay s t
    → (is_some l ≡ true → may_link s x.owner ≡ true → may_link t x.owner ≡ true) → link_fits s x l ≡ true → link_fits t x l ≡ true
link_stays s t x l volumes may h = grind arith

-- where one instance changes, others' contexts may be linked still
pub others_link : (s t : StackWorld) (i : InstanceId) → ((j : InstanceId) → j.0 ≢ i.0 → row_at t j ≡ row_at s j) → (o : Owner)
    → same_owner (Owner.Instance i) o ≡ false
    → may_link s o ≡ true → may_link t o ≡ true
others_link s t i same o other h = grind arith

-- instances go on: none is detached, and none is emptied
pub record GoesOn (s t : StackWorld) : Type 0 where
  pub filters : length s.filters ≤ length t.filters
  pub volumes : VolumesStay s t
  pub left : (j : InstanceId) → is_left_by (row_at s j) ≡ true → is_left_by (row_at t j) ≡ true
  pub keeps : (j : InstanceId) → keeps_links_by (row_at s j) ≡ true → keeps_links_by (row_at t j) ≡ true

pub fits_on : (s t : StackWorld) (slots : List Slot) → GoesOn s t → AllFit s slots → AllFit t slots
fits_on s t slots on h = grind arith
