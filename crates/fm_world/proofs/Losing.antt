-- Links that go with what they name leave a World sound.
use Rattle.fm_world.proofs.Words.{sweep_keeps, with_link, swept, swept_slot, with_contexts, moved_on, FileTable, created, phased, LosesLinks, is_on_gone}
use Rattle.fm_world.proofs.Words.{is_there, names_there, fits, IsOwned, IsSound, IsUnderWay, Context, ContextTable, HandleId, Object, Operation, Slot, Sweeps}
use Rattle.fm_world.proofs.Words.{VolumeId, WorkerId, change_first, hand_of, World, carries, HandlePhase, Bool, List, None, Option, Some, [], ap, arith, cond}
use Rattle.fm_world.proofs.Words.{false, find, is_some, map, not, refl, subst, sym, true, ℕ, ◌++◌, ◌∙◌, ◌∷◌, ◌≡◌, false≢true}
use Rattle.fm_world.specs.Sound.{NoneBegun}
use Rattle.fm_world.proofs.Belonging.{AllPass, fits_unlinked, owners_after, owners_same, owners_swept, passes_swept}
use Rattle.fm_world.proofs.Callbacks.{contexts_owned, same_hand, same_hands}
use Rattle.fm_world.proofs.Cases.{by_bool}
use Rattle.fm_world.proofs.Keeps.{FiledIn}

-- each link of a World names what is there
abbrev pub NamedIn : World → Type 0
NamedIn w = AllPass (names_there w.files) w.contexts.slots

-- ---- what is gone has no links

-- a test of contexts passes, if it passes those without a link
pub passes_unlinked : (p : Option Context → Bool) (test : Context → Bool) (x : Context) → (p (Some x) ≡ true → p (Some (with_link None x)) ≡ true)
    → p (Some x) ≡ true → p (Some (swept test x)) ≡ true
passes_unlinked p test x bare h = elim (test x) as (λ b. p (Some (cond b (with_link None x) x)) ≡ true) [ true ↦ bare h | false ↦ h ]

-- contexts that pass a test lose their links
pub sweeps_owned : (old : World) (test : Context → Bool) (after : ContextTable) → Sweeps (carries old) test old.contexts after
    → IsOwned old → IsOwned (with_contexts old after)
sweeps_owned old test after h s =
    let slots = old.contexts.slots in
    let first : WorkerId = record { 0 = 0 } in
    let owners = owners_after slots (map (swept_slot test) slots) after.slots (owners_swept test slots)
    (owners_same (map (swept_slot test) slots) after.slots h.slots) in
    let fit = passes_swept (fits old.stack) (fits old.stack) test slots refl
    (λ x. passes_unlinked (fits old.stack) test x (fits_unlinked old.stack x)) s.fits in
    contexts_owned old after first (hand_of old.contexts.hands 0) (sweep_keeps test s.lawful h) h.cleaning owners (h.hands
    ∙ same_hands old.contexts.hands 0) (omega arith)
    (same_hand old after first s owners) (subst (AllPass (fits old.stack)) (sym h.slots) fit) s

pub sweeps_named : (old : World) (test : Context → Bool) (after : ContextTable) → Sweeps (carries old) test old.contexts after
    → NamedIn old → NamedIn (with_contexts old after)
sweeps_named old test after h named =
    subst (AllPass (names_there old.files)) (sym h.slots)
    (passes_swept (names_there old.files) (names_there old.files) test old.contexts.slots refl
    (λ x. passes_unlinked (names_there old.files) test x (λ was. refl)) named)

loses_owned : (old new : World) → LosesLinks old new → IsOwned old → IsOwned new
loses_owned old new h s = subst IsOwned (sym h.1) (sweeps_owned old (is_on_gone old.files) new.contexts h.0 s)

-- the links that are left name what is there
left_there : (f : FileTable) (x : Context) → names_there f (Some (swept (is_on_gone f) x)) ≡ true
left_there f x = by_bool (λ b. names_there f (Some (cond (not b) (with_link None x) x)) ≡ true) (is_there f x.link) (λ is. is) (λ is. refl)

loses_named : (old new : World) → LosesLinks old new → NamedIn new
loses_named old new h =
    let left = passes_swept (λ o. true) (names_there old.files) (is_on_gone old.files) old.contexts.slots refl
    (λ x _. left_there old.files x) (λ k d l. refl) in
    subst NamedIn (sym h.1) (subst (AllPass (names_there old.files)) (sym h.0.slots) left)

-- where all but the links held, all holds
pub loses_sound : (old new : World) → LosesLinks old new → IsUnderWay old → IsOwned old → NoneBegun old.stack old.flow → FiledIn old → IsSound new
loses_sound old new h under_way owned begun filed = record {
  under_way = subst IsUnderWay (sym h.1) under_way;
  owned = loses_owned old new h owned;
  begun = subst (λ w. NoneBegun w.stack w.flow) (sym h.1) begun;
  filed = subst FiledIn (sym h.1) filed;
  links = loses_named old new h;
}

-- ---- streams and handles come, and stay

pub named_more : (f g : FileTable) (slots : List Slot) → ((l : Option Object) → is_there f l ≡ true → is_there g l ≡ true)
    → AllPass (names_there f) slots → AllPass (names_there g) slots
named_more f g slots h3 h4 = grind arith

pub found_before : {A : Type 0} (test : A → Bool) (xs ys : List A) → is_some (find test xs) ≡ true → is_some (find test (xs ++ ys)) ≡ true
found_before test [] ys h = absurd (false≢true h)
found_before test (x ∷ xs) ys h = grind (arith, (found_before test xs ys))

pub created_there : (v : VolumeId) (path : List ℕ) (n : ℕ) (f : FileTable) (l : Option Object) → is_there f l ≡ true → is_there (created v path n f) l ≡ true
created_there v path n f l h = grind (arith, found_before)

pub found_changed : {A : Type 0} (test other : A → Bool) (change : A → A) → ((x : A) → test (change x) ≡ test x) → (xs : List A)
    → is_some (find test xs) ≡ true → is_some (find test (change_first other change xs)) ≡ true
found_changed test other change same [] h = absurd (false≢true h)
found_changed test other change same (x ∷ xs) h =
    by_bool (λ b. is_some (find test (cond b (change x ∷ xs) (x ∷ change_first other change xs))) ≡ true) (other x)
    (λ _. ap (λ b. is_some (cond b (Some (change x)) (find test xs))) (same x)
    ∙ by_bool (λ b. is_some (cond b (Some x) (find test xs)) ≡ true → is_some (cond b (Some (change x)) (find test xs)) ≡ true)
    (test x) (λ _ h. refl) (λ _ h. h) h)
    (λ _. by_bool (λ b. is_some (cond b (Some x) (find test xs)) ≡ true → is_some (cond b (Some x) (find test (change_first other change xs))) ≡ true) (test x)
    (λ _ h. refl) (λ _ h. found_changed test other change same xs h) h)

phased_there : (g : HandleId) (where' : HandlePhase) (f : FileTable) (l : Option Object) → is_there f l ≡ true → is_there (phased g where' f) l ≡ true
phased_there g where' f l h = grind (arith, found_changed)

pub moved_there : (operation : Operation) (g : HandleId) (n : ℕ) (f : FileTable) (l : Option Object) → is_there f l ≡ true
    → is_there (moved_on operation g n f) l ≡ true
moved_there operation g n f l h = grind (arith, phased_there)
