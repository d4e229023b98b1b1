-- What an event does: a sound World stays sound, slots stay as they are, or of a later generation, and hands change by what is handed out.
use Rattle.fm_world.proofs.Words.{by_id, is_id-same, context_at-swept, context_at-here, context_at-other, context_at-placed_other, IsNew, new_slot, placed}
use Rattle.fm_world.proofs.Words.{swept_slot, change_context, changed_slot, context_at, slice_get-kept, slice_get-push, slice_get-set_same, OnlyHandOf}
use Rattle.fm_world.proofs.Words.{given_with, hand_len, IsGone, LosesLinks, IsSound, Context, ContextTable, CtxId, Slot, cleaning_of, hand_of, updated, World}
use Rattle.fm_world.proofs.Words.{Bool, List, None, Option, Some, [], ap, arith, cond, false, inl, inr, length, map, nat_le, refl, slice_get, slice_set, subst}
use Rattle.fm_world.proofs.Words.{suc, sym, true, zero, ℕ, ◌++◌, ◌+◌, ◌<◌, ◌∙◌, ◌∷◌, ◌≡◌, ◌⊎◌, eq-eqb, ne_eqb, common_steps, slice_get-map, slice_get_within}
use Rattle.std.proofs.lemmas.Bool.{le-leb, leb-true}
use Rattle.fm_world.proofs.Cases.{at_written, some_of}

-- ---- ids

-- an id of a slot's last generation, or of an earlier one
abbrev given_in : CtxId → Option Slot → Bool
given_in c None = false
given_in c (Some s) = nat_le c.generation s.generation

abbrev pub WasGiven : List Slot → CtxId → Type 0
WasGiven slots c = given_in c (slice_get slots c.slot) ≡ true

-- an id that was given isn't new
pub given_not_new : (slots : List Slot) (c : CtxId) → WasGiven slots c → IsNew slots c → ⊥
given_not_new slots c was h3 = grind (arith, some_of, slice_get_within, leb-true)

-- ---- slots

-- what was given is given still, and what was cleaned stays cleaned
abbrev pub SlotsStay : List Slot → List Slot → Type 0
SlotsStay old new = (c : CtxId) → WasGiven old c → WasGiven new c × (context_at old c ≡ None → context_at new c ≡ None)

slots_after : (old mid new : List Slot) → SlotsStay old mid → SlotsStay mid new → SlotsStay old new
slots_after old mid new f g = grind arith

pub slots_changed : (f : Option Context → Option Context) (slots : List Slot) (d : CtxId) → f None ≡ None → SlotsStay slots (change_context f slots d)
slots_changed f slots d none c was = (
  same_given slots d.slot c.slot ∙ was,
  by_id (λ e. context_at slots e ≡ None → context_at (change_context f slots d) e ≡ None) d (λ gone. context_at-here f slots d none ∙ ap f gone ∙ none)
      (λ e other gone. context_at-other f slots d e other ∙ gone) c,
)
  where
    same_given : (xs : List Slot) (at j : ℕ) → given_in c (slice_get (updated (changed_slot f d) xs at) j) ≡ given_in c (slice_get xs j)
    same_given (x ∷ xs) zero zero = grind arith
    same_given (x ∷ xs) (suc at) (suc j) = same_given xs at j
    same_given _ _ _ = refl

pub slots_swept : (test : Context → Bool) (slots : List Slot) → SlotsStay slots (map (swept_slot test) slots)
slots_swept test slots = grind (arith, slice_get-map, context_at-swept)

placed_given : (slots : List Slot) (d : CtxId) (x : Context) (c : CtxId) → IsNew slots d → WasGiven slots c → WasGiven (placed slots d x) c
placed_given slots d x c (inl new) was = grind (arith, some_of, eq-eqb, slice_get-kept)
placed_given slots d x c (inr new) was =
    let within = slice_get_within slots d.slot new.0 new.1 in
    ap (λ b. given_in c (slice_get (cond b (slots ++ new_slot d x ∷ []) (slice_set slots d.slot (new_slot d x))) c.slot))
    (ne_eqb d.slot (length slots) (λ e. omega (arith, e, within)))
    ∙ at_written (λ j m. c.slot ≡ j → given_in c m ≡ true) slots d.slot (new_slot d x) within
    (λ is. let below = leb-true c.generation new.0.generation (sym (ap (given_in c) new.1) ∙ ap (λ j. given_in c (slice_get slots j)) (sym is) ∙ was) in
    le-leb c.generation d.generation (omega (arith, new.3, below)))
    (λ j other is. ap (λ n. given_in c (slice_get slots n)) (sym is) ∙ was) c.slot refl

pub slots_placed : (slots : List Slot) (d : CtxId) (x : Context) → IsNew slots d → SlotsStay slots (placed slots d x)
slots_placed slots d x h3 = grind (arith, placed_given, given_not_new, is_id-same, context_at-placed_other)

pub given_placed : (slots : List Slot) (c : CtxId) (x : Context) → IsNew slots c → WasGiven (placed slots c x) c
given_placed slots c x h3 = grind (arith, eq-eqb, slice_get-push, le-leb, slice_get_within, ne_eqb, slice_get-set_same)

pub given_there : (slots : List Slot) (c : CtxId) (x : Context) → context_at slots c ≡ Some x → WasGiven slots c
unfolding context_at
given_there slots c x h = grind arith

-- ---- tables of contexts

-- slots stay, and so does what is being cleaned up
abbrev pub TableStays : ContextTable → ContextTable → Type 0
TableStays a b = SlotsStay a.slots b.slots × (b.cleaning ≡ a.cleaning)

pub table_same : (a b : ContextTable) → b.slots ≡ a.slots → b.cleaning ≡ a.cleaning → TableStays a b
table_same a b slots cleaning = (subst (SlotsStay a.slots) (sym slots) (λ c was. (was, λ gone. gone)), cleaning)

pub still : (t : ContextTable) → TableStays t t
still t = table_same t t refl refl

pub table_after : (a b c : ContextTable) → TableStays a b → TableStays b c → TableStays a c
table_after a b c f g = (slots_after a.slots b.slots c.slots f.0 g.0, g.1 ∙ f.1)

-- ---- events

-- what a worker cleans up it cleans up still, or it is cleaned
abbrev pub CleansOn : World → World → Type 0
CleansOn old new = (k : ℕ) (c : CtxId) → cleaning_of old.contexts.cleaning k ≡ Some c → (cleaning_of new.contexts.cleaning k ≡ Some c) ⊎ IsGone new c

abbrev pub Lasts : World → World → Type 0
Lasts old new = SlotsStay old.contexts.slots new.contexts.slots × CleansOn old new

-- the event makes a table in which slots stay, and so does what is being cleaned up
pub lasts : (old new : World) (t : ContextTable) → new.contexts ≡ t → TableStays old.contexts t → Lasts old new
lasts old new t e stay = grind arith

abbrev pub contexts_in : World → ContextTable
contexts_in w = w.contexts

pub kept : (old new : World) → new.contexts ≡ old.contexts → Lasts old new
kept old new e = lasts old new old.contexts e (still old.contexts)

-- links go
pub loses_lasts : (old mid new : World) → LosesLinks mid new → TableStays old.contexts mid.contexts → Lasts old new
loses_lasts old mid new h stay =
    lasts old new new.contexts refl
    (table_after old.contexts mid.contexts new.contexts stay
    (subst (SlotsStay mid.contexts.slots) (sym h.0.slots) (slots_swept _ mid.contexts.slots), h.0.cleaning))

-- ---- hands

-- a hand with what an event hands out
abbrev given_hand : List CtxId → Option CtxId → List CtxId
given_hand hand None = hand
given_hand hand (Some c) = hand ++ c ∷ []

abbrev pub Gives : ℕ → List (List CtxId) → Option CtxId → List (List CtxId) → Type 0
Gives k old m new = new ≡ slice_set old k (given_hand (hand_of old k) m)

-- so many more in the hand, and no other hand changes
abbrev pub HandMore : ℕ → World → World → ℕ → Type 0
HandMore k old new n = OnlyHandOf k old new × (hand_len k new ≡ hand_len k old + n)

pub hand_given : (k : ℕ) (old new : World) (m : Option CtxId) → k < length old.contexts.hands
    → Gives k old.contexts.hands m new.contexts.hands → HandMore k old new (given_with m)
hand_given k old new m within e = grind (arith, common_steps)

-- the hand is empty, and no other hand changes
pub hand_emptied : (k : ℕ) (old new : World) → new.contexts.hands ≡ slice_set old.contexts.hands k [] → OnlyHandOf k old new × (hand_len k new ≡ 0)
hand_emptied k old new e = grind (arith, common_steps)

-- the hand is another, and no other hand changes
pub hand_written : (k : ℕ) (old new : World) (hand : List CtxId) → k < length old.contexts.hands → new.contexts.hands ≡ slice_set old.contexts.hands k hand
    → OnlyHandOf k old new × (hand_len k new ≡ length hand)
hand_written k old new hand within e = grind (arith, common_steps)

-- ---- what every event does

-- a sound World stays so, and contexts last
pub record Does (old new : World) : Type 0 where
  pub sound : IsSound old → IsSound new
  pub lasts : IsSound old → Lasts old new

pub nothing : (old : World) → Does old old
nothing old = record { sound = λ s. s; lasts = λ s. kept old old refl }

-- by what it makes of the World
pub makes : (old w new : World) → new ≡ w → TableStays old.contexts w.contexts → (IsSound old → IsSound w) → Does old new
makes old w new e stay sound = record { sound = λ s. subst IsSound (sym e) (sound s); lasts = λ s. lasts old new w.contexts (ap contexts_in e) stay }

pub unchanged : (old new : World) → new ≡ old → Does old new
unchanged old new e = makes old old new e (still old.contexts) (λ s. s)
