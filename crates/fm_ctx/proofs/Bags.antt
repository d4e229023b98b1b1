-- Lists of references: what they hold after one more, and after one fewer.
use Rattle.fm_ctx.proofs.Words.{ℕ, true, false, cond, List, [], length, get_or, set, slice_get, Option, Some, None, All, refl, subst, arith}
use Rattle.fm_ctx.proofs.Words.{nat_tests, inl, inr, length-append, cases_Bool, none-some, sum_by-cons, get_or-le-sum_by, CtxId, one, is_id}
use Rattle.fm_ctx.proofs.Words.{references, holds, without, hand_of, held, places, All-set, sum_by-set, count_by-le-length, cleans}
use Rattle.std.proofs.Common.{◌≡◌, ◌+◌, ◌<◌, ◌≤◌, ◌∷◌, ◌++◌, Bool, count_by, drop, nat_lt, not}
use Rattle.std.specs.List.{list_any}
use Rattle.std.proofs.lemmas.List.Elements.{All-weaker}
use Rattle.std.proofs.lemmas.List.Sums.{sum_by-append, sum_by-le}

-- ---- ids

pub is_id-refl : (c : CtxId) → is_id c c ≡ true
is_id-refl c = grind (arith, nat_tests)

-- the same id has the same slot and generation
pub is_id-same : (c d : CtxId) → is_id c d ≡ true → d ≡ c
is_id-same c d is = grind (arith, nat_tests)

-- what holds of an id, and of each other one, holds of all
pub by_id : (P : CtxId → Type 0) (c : CtxId) → P c → ((d : CtxId) → is_id d c ≡ false → P d) → (d : CtxId) → P d
by_id P c here others d =
    elim (cases_Bool (is_id d c)) [ inl is ↦ subst P (is_id-same d c is) here | inr other ↦ others d other ]

-- ---- lists of references

pub references_cons : (c d : CtxId) (ids : List CtxId) → references (d ∷ ids) c ≡ one (is_id c d) + references ids c
unfolding references
references_cons c d ids = sum_by-cons (λ e. cond (is_id c e) 1 0) d ids

pub references_none : (c : CtxId) → references [] c ≡ 0
unfolding references
references_none c = refl

pub references_append : (c : CtxId) (xs ys : List CtxId) → references (xs ++ ys) c ≡ references xs c + references ys c
unfolding references
references_append c xs ys = sum_by-append (λ e. cond (is_id c e) 1 0) xs ys

pub references_without : (c : CtxId) (ids : List CtxId) → holds ids c ≡ true → (d : CtxId) → references (without c ids) d + one (is_id d c) ≡ references ids d
unfolding holds without
references_without c [] has d = grind arith
references_without c (e ∷ ids) has d = grind (arith, nat_tests, references_cons, is_id-same, references_without c ids)

-- what passes is counted
counted_if_any : {X : Type 0} (p : X → Bool) (xs : List X) → list_any p xs ≡ nat_lt 0 (count_by p xs)
counted_if_any p [] = refl
counted_if_any p (x ∷ xs) = grind (arith, nat_tests, sum_by-cons (λ y. one (p y)) x xs, counted_if_any p xs)

-- what a list holds is counted
pub counted_if_held : (ids : List CtxId) (c : CtxId) → holds ids c ≡ true → 0 < references ids c
unfolding holds references
counted_if_held ids c has = grind (arith, nat_tests, counted_if_any (is_id c) ids)

-- and what isn't is not
pub none_if_not_held : (ids : List CtxId) (c : CtxId) → holds ids c ≡ false → references ids c ≡ 0
unfolding holds references
none_if_not_held ids c none = grind (arith, nat_tests, counted_if_any (is_id c) ids)

-- one reference fewer makes a list shorter
pub length-without : (c : CtxId) (ids : List CtxId) → holds ids c ≡ true → length (without c ids) + 1 ≡ length ids
unfolding holds without
length-without c [] has = grind arith
length-without c (e ∷ ids) has = grind (arith, nat_tests, length-without c ids)

-- where there is none, nothing goes
pub without_none : (c : CtxId) (ids : List CtxId) → holds ids c ≡ false → without c ids ≡ ids
unfolding holds without
without_none c [] none = refl
without_none c (e ∷ ids) none = grind (arith, nat_tests, without_none c ids)

pub first_held : (ids : List CtxId) (c : CtxId) → slice_get ids 0 ≡ Some c → holds ids c ≡ true
unfolding holds
first_held [] c first = absurd (none-some c first)
first_held (d ∷ ids) c first = grind (arith, nat_tests)

-- ---- the workers' hands

held_set : (hands : List (List CtxId)) (w : ℕ) (hand : List CtxId) → w < length hands → (d : CtxId)
    → held (set hands w hand) d + references (hand_of hands w) d ≡ held hands d + references hand d
unfolding held
held_set hands w hand within d = sum_by-set (λ (h : List CtxId). references h d) hands w hand [] within

-- one more reference in a hand
pub held_push : (hands : List (List CtxId)) (w : ℕ) (c : CtxId) → w < length hands → (d : CtxId)
    → held (set hands w (hand_of hands w ++ c ∷ [])) d ≡ held hands d + one (is_id d c)
held_push hands w c within d = grind (arith, held_set, references_append, references_cons, references_none)

-- one fewer
pub held_without : (hands : List (List CtxId)) (w : ℕ) (c : CtxId) → w < length hands → holds (hand_of hands w) c ≡ true → (d : CtxId)
    → held (set hands w (without c (hand_of hands w))) d + one (is_id d c) ≡ held hands d
held_without hands w c within has d = grind (arith, held_set, references_without)

-- what one worker holds is counted
pub hand_counted : (hands : List (List CtxId)) (w : ℕ) (c : CtxId) → w < length hands → references (hand_of hands w) c ≤ held hands c
unfolding held
hand_counted hands w c within = get_or-le-sum_by (λ (h : List CtxId). references h c) hands w [] within

pub counted_in_hand : (hands : List (List CtxId)) (w : ℕ) (c : CtxId) → w < length hands → holds (hand_of hands w) c ≡ true → 0 < held hands c
counted_in_hand hands w c within has = omega (arith, hand_counted hands w c within, counted_if_held (hand_of hands w) c has)

abbrev pub IsSmall : List CtxId → Type 0
IsSmall hand = length hand ≤ 16

pub small_push : (hands : List (List CtxId)) (w : ℕ) (c : CtxId) → All IsSmall hands → length (hand_of hands w) < 16
    → All IsSmall (set hands w (hand_of hands w ++ c ∷ []))
small_push hands w c small room =
    All-set IsSmall hands w (hand_of hands w ++ c ∷ []) (omega (arith, room, length-append (hand_of hands w) (c ∷ []))) small

pub small_without : (hands : List (List CtxId)) (w : ℕ) (c : CtxId) → All IsSmall hands → w < length hands → holds (hand_of hands w) c ≡ true
    → All IsSmall (set hands w (without c (hand_of hands w)))
small_without hands w c small within has =
    All-set IsSmall hands w (without c (hand_of hands w)) (omega (arith, small w [] within, length-without c (hand_of hands w) has)) small

-- few references fit into 48 hands
pub held_few : (hands : List (List CtxId)) (c : CtxId) → length hands ≡ 48 → All IsSmall hands → held hands c ≤ 768
unfolding held references
held_few hands c workers small =
    let each : All (λ (h : List CtxId). references h c ≤ 16) hands =
    All-weaker IsSmall (λ (h : List CtxId). references h c ≤ 16) (λ h few. omega (arith, few, count_by-le-length (is_id c) h)) hands small in
    omega (arith, workers, sum_by-le (λ (h : List CtxId). references h c) 16 hands each)

-- ---- places

pub places_push : (due : List CtxId) (cleaning : List (Option CtxId)) (fresh : List CtxId) (c : CtxId)
    → places (due ++ fresh) cleaning c ≡ places due cleaning c + references fresh c
unfolding places
places_push due cleaning fresh c = omega (arith, references_append c due fresh)

-- the first that is due is taken by a worker that cleans up none
pub places_taken : (due : List CtxId) (cleaning : List (Option CtxId)) (w : ℕ) (c : CtxId) → slice_get due 0 ≡ Some c
    → w < length cleaning → get_or cleaning w None ≡ None
    → (d : CtxId) → places (drop 1 due) (set cleaning w (Some c)) d ≡ places due cleaning d
unfolding places
places_taken [] cleaning w c first within idle d = absurd (none-some c first)
places_taken (e ∷ due) cleaning w c first within idle d =
    grind (arith, nat_tests, references_cons, sum_by-set (λ o. one (cleans d o)) cleaning w (Some c) None within)

-- a worker reports the one that it cleaned up
pub places_cleaned : (due : List CtxId) (cleaning : List (Option CtxId)) (w : ℕ) (c : CtxId) → w < length cleaning → get_or cleaning w None ≡ Some c
    → (d : CtxId) → places due (set cleaning w None) d + one (is_id d c) ≡ places due cleaning d
unfolding places
places_cleaned due cleaning w c within busy d = grind (arith, nat_tests, sum_by-set (λ o. one (cleans d o)) cleaning w None None within)

-- what is due stands somewhere
pub first_placed : (due : List CtxId) (cleaning : List (Option CtxId)) (c : CtxId) → slice_get due 0 ≡ Some c → 0 < places due cleaning c
unfolding places
first_placed [] cleaning c first = absurd (none-some c first)
first_placed (e ∷ due) cleaning c first = grind (arith, nat_tests, references_cons, is_id-refl)

-- what stands in one place is due, or is being cleaned up
pub due_or_cleaned : (due : List CtxId) (cleaning : List (Option CtxId)) (c : CtxId) → places due cleaning c ≡ 1
    → holds due c ≡ not (list_any (cleans c) cleaning)
unfolding places holds references
due_or_cleaned due cleaning c once = grind (arith, nat_tests, counted_if_any (is_id c) due, counted_if_any (cleans c) cleaning)
