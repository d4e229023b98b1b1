-- Lists by their places: look-ups, updates, facts on each element and on each two, and counts.
use Rattle.std.proofs.Common.{ℕ, zero, suc, ◌+◌, ◌<◌, ◌≤◌, ◌≡◌, ◌≢◌, ◌⊎◌, List, [], ◌∷◌, ◌++◌, length, get_or, set, slice_get, Bool, true, false, cond, Option, Some, None, All, AllPairs, count_by, sum_by, refl, sym, ap, subst, ◌∙◌, arith, zero-add, inl, inr, lit≤}
use Rattle.std.proofs.lemmas.Bool.{cases_eq, cases_order}
use Rattle.std.proofs.lemmas.List.{length-set}
use Rattle.std.proofs.lemmas.Option.{slice_get-get_or, slice_get_within, slice_get_read, get_or_from_slice_get, none-some, same_Some}
use Rattle.std.proofs.lemmas.List.Sums.{sum_by-append, sum_by-cons, sum_by-set}
use Rattle.fm_types.specs.Lists.{updated}

-- ---- look-ups ----

-- a look-up in the front of two lists
pub slice_get-append_left : {X : Type 0} (xs ys : List X) (k : ℕ) → k < length xs → slice_get (xs ++ ys) k ≡ slice_get xs k
slice_get-append_left [] ys k within = absurd (omega (arith, within))
slice_get-append_left (x ∷ xs) ys zero within = refl
slice_get-append_left (x ∷ xs) ys (suc k) within = slice_get-append_left xs ys k (omega (arith, within))

-- what was there is there when another is pushed
pub slice_get-kept : {X : Type 0} (xs ys : List X) (k : ℕ) (x : X) → slice_get xs k ≡ Some x → slice_get (xs ++ ys) k ≡ Some x
slice_get-kept xs ys k x there = slice_get-append_left xs ys k (slice_get_within xs k x there) ∙ there

-- the one that was pushed stands at the end
pub slice_get-push : {X : Type 0} (xs : List X) (x : X) → slice_get (xs ++ x ∷ []) (length xs) ≡ Some x
slice_get-push [] x = refl
slice_get-push (y ∷ xs) x = slice_get-push xs x

-- whatever is there after a push was there before, or is the one that was pushed
pub slice_get-push_cases : {X : Type 0} (xs : List X) (x y : X) (k : ℕ) → slice_get (xs ++ x ∷ []) k ≡ Some y
    → (slice_get xs k ≡ Some y) ⊎ ((k ≡ length xs) × (y ≡ x))
slice_get-push_cases [] x y zero there = inr (refl, sym (same_Some x y there))
slice_get-push_cases [] x y (suc k) there = absurd (none-some y there)
slice_get-push_cases (z ∷ xs) x y zero there = inl there
slice_get-push_cases (z ∷ xs) x y (suc k) there =
    elim (slice_get-push_cases xs x y k there) [
      | inl old ↦ inl old
      | inr new ↦ inr (ap suc new.0, new.1)
    ]

-- the place that was written to has what was written
pub slice_get-set_same : {X : Type 0} (xs : List X) (k : ℕ) (x : X) → k < length xs → slice_get (set xs k x) k ≡ Some x
slice_get-set_same [] k x within = absurd (omega (arith, within))
slice_get-set_same (y ∷ xs) zero x within = refl
slice_get-set_same (y ∷ xs) (suc k) x within = slice_get-set_same xs k x (omega (arith, within))

-- another place stays
pub slice_get-set_other : {X : Type 0} (xs : List X) (i k : ℕ) (x : X) → k ≢ i → slice_get (set xs i x) k ≡ slice_get xs k
slice_get-set_other [] i k x other = refl
slice_get-set_other (y ∷ xs) zero zero x other = absurd (other refl)
slice_get-set_other (y ∷ xs) zero (suc k) x other = refl
slice_get-set_other (y ∷ xs) (suc i) zero x other = refl
slice_get-set_other (y ∷ xs) (suc i) (suc k) x other = slice_get-set_other xs i k x (λ is. other (ap suc is))

-- a place below the length has an element
pub slice_get-some : {X : Type 0} (xs : List X) (k : ℕ) → k < length xs → (x : X) × (slice_get xs k ≡ Some x)
slice_get-some [] k within = absurd (omega (arith, within))
slice_get-some (x ∷ xs) zero within = (x, refl)
slice_get-some (x ∷ xs) (suc k) within = slice_get-some xs k (omega (arith, within))

-- ---- updates ----

-- where an element stands, an update writes the changed one
pub updated_there : {X : Type 0} (change : X → X) (xs : List X) (at : ℕ) (x : X) → slice_get xs at ≡ Some x
    → updated change xs at ≡ set xs at (change x)
updated_there change [] at x there = refl
updated_there change (y ∷ xs) zero x there = ap (λ z. change z ∷ xs) (same_Some y x there)
updated_there change (y ∷ xs) (suc at) x there = ap (λ ys. y ∷ ys) (updated_there change xs at x there)

-- a write of the changed element over the one that was read is an update
pub set_is_updated : {X : Type 0} (change : X → X) (xs : List X) (at : ℕ) (x y : X) → at < length xs → x ≡ get_or xs at x → y ≡ change x
    → set xs at y ≡ updated change xs at
set_is_updated change xs at x y within read changed =
    ap (set xs at) changed ∙ sym (updated_there change xs at x (slice_get_read xs (length xs) at x refl within read))

-- where none stands, nothing changes
pub updated_none : {X : Type 0} (change : X → X) (xs : List X) (at : ℕ) → slice_get xs at ≡ None → updated change xs at ≡ xs
updated_none change [] at none = refl
updated_none change (y ∷ xs) zero none = absurd (none-some y (sym none))
updated_none change (y ∷ xs) (suc at) none = ap (λ ys. y ∷ ys) (updated_none change xs at none)

-- the updated place has the changed element
pub updated-same : {X : Type 0} (change : X → X) (xs : List X) (at : ℕ) (x : X) → slice_get xs at ≡ Some x
    → slice_get (updated change xs at) at ≡ Some (change x)
updated-same change [] at x there = absurd (none-some x there)
updated-same change (y ∷ xs) zero x there = ap (λ z. Some (change z)) (same_Some y x there)
updated-same change (y ∷ xs) (suc at) x there = updated-same change xs at x there

-- the other places stay
pub updated-other : {X : Type 0} (change : X → X) (xs : List X) (at k : ℕ) → k ≢ at
    → slice_get (updated change xs at) k ≡ slice_get xs k
updated-other change [] at k other = refl
updated-other change (y ∷ xs) zero zero other = absurd (other refl)
updated-other change (y ∷ xs) zero (suc k) other = refl
updated-other change (y ∷ xs) (suc at) zero other = refl
updated-other change (y ∷ xs) (suc at) (suc k) other = updated-other change xs at k (λ is. other (ap suc is))

-- an update keeps the length
pub length-updated : {X : Type 0} (change : X → X) (xs : List X) (at : ℕ) → length (updated change xs at) ≡ length xs
length-updated change [] at = refl
length-updated change (y ∷ xs) zero = refl
length-updated change (y ∷ xs) (suc at) = ap suc (length-updated change xs at)

-- whatever is there after an update was there before, or is the changed element
pub updated_cases : {X : Type 0} (change : X → X) (xs : List X) (at k : ℕ) (y : X) → slice_get (updated change xs at) k ≡ Some y
    → ((k ≢ at) × (slice_get xs k ≡ Some y)) ⊎ ((k ≡ at) × ((x : X) × (slice_get xs at ≡ Some x) × (y ≡ change x)))
updated_cases {X} change xs at k y there =
    elim (cases_eq k at) [
      | inl is ↦
          let there_at : slice_get (updated change xs at) at ≡ Some y = subst (λ n. slice_get (updated change xs at) n ≡ Some y) is there in
          let within : at < length xs = subst (λ n. at < n) (length-updated change xs at) (slice_get_within (updated change xs at) at y there_at) in
          let old = slice_get-some xs at within in
          inr (is, (old.0, old.1, same_Some y (change old.0) (sym there_at ∙ updated-same change xs at old.0 old.1)))
      | inr other ↦ inl (other, sym (updated-other change xs at k other) ∙ there)
    ]

-- ---- facts on each element ----

-- a fact on each element, from the look-ups
pub all_from_slice_get : {X : Type 0} (P : X → Type 0) (xs : List X) → ((k : ℕ) (x : X) → slice_get xs k ≡ Some x → P x) → All P xs
all_from_slice_get P xs each k d within = each k (get_or xs k d) (slice_get-get_or xs k d within)

-- a fact on each element holds of the one that a look-up finds
pub all_at : {X : Type 0} (P : X → Type 0) (xs : List X) (k : ℕ) (x : X) → All P xs → slice_get xs k ≡ Some x → P x
all_at P xs k x all there = subst P (get_or_from_slice_get xs k x x there) (all k x (slice_get_within xs k x there))

-- a fact on each element after a write, where the other elements keep it
pub All-set_others : {X : Type 0} (P Q : X → Type 0) (xs : List X) (at : ℕ) (y : X) → Q y → All P xs
    → ((k : ℕ) (x : X) → k ≢ at → slice_get xs k ≡ Some x → P x → Q x) → All Q (set xs at y)
All-set_others {X} P Q xs at y new all others =
    all_from_slice_get Q (set xs at y) (λ k x there.
    elim (cases_eq k at) [
      | inl is ↦
          let there_at : slice_get (set xs at y) at ≡ Some x = subst (λ n. slice_get (set xs at y) n ≡ Some x) is there in
          let within : at < length xs = subst (λ n. at < n) (length-set xs at y) (slice_get_within (set xs at y) at x there_at) in
          subst Q (same_Some y x (sym (slice_get-set_same xs at y within) ∙ there_at)) new
      | inr other ↦
          let old : slice_get xs k ≡ Some x = sym (slice_get-set_other xs at k y other) ∙ there in
          others k x other old (all_at P xs k x all old)
    ])

-- a fact on each element after an update
pub All-updated : {X : Type 0} (P Q : X → Type 0) (change : X → X) (xs : List X) (at : ℕ) → All P xs
    → ((x : X) → slice_get xs at ≡ Some x → P x → Q (change x))
    → ((k : ℕ) (x : X) → k ≢ at → slice_get xs k ≡ Some x → P x → Q x) → All Q (updated change xs at)
All-updated P Q change xs at all new others =
    all_from_slice_get Q (updated change xs at) (λ k y there.
    elim (updated_cases change xs at k y there) [
      | inl old ↦ others k y old.0 old.1 (all_at P xs k y all old.1)
      | inr made ↦ subst Q (sym made.1.2) (new made.1.0 made.1.1 (all_at P xs at made.1.0 all made.1.1))
    ])

-- ---- facts on each two elements ----

-- a fact on each two elements, from the look-ups
pub all_pairs_from_slice_get : {X : Type 0} (R : X → X → Type 0) (xs : List X)
    → ((i j : ℕ) (x y : X) → i < j → slice_get xs i ≡ Some x → slice_get xs j ≡ Some y → R x y) → AllPairs R xs
all_pairs_from_slice_get R xs each i j d below within =
    each i j (get_or xs i d) (get_or xs j d) below (slice_get-get_or xs i d (omega (arith, below, within))) (slice_get-get_or xs j d within)

-- a fact on each two elements holds of two that look-ups find in that order
pub pair_at : {X : Type 0} (R : X → X → Type 0) (xs : List X) (i j : ℕ) (x y : X) → AllPairs R xs → i < j
    → slice_get xs i ≡ Some x → slice_get xs j ≡ Some y → R x y
pair_at R xs i j x y pairs below first second =
    subst (λ b. R x b) (get_or_from_slice_get xs j y x second)
    (subst (λ a. R a (get_or xs j x)) (get_or_from_slice_get xs i x x first)
    (pairs i j x below (slice_get_within xs j y second)))

-- and, where its two sides may be swapped, of any two places
pub pair_of : {X : Type 0} (R : X → X → Type 0) (xs : List X) (i j : ℕ) (x y : X) → ((a b : X) → R a b → R b a) → AllPairs R xs
    → i ≢ j → slice_get xs i ≡ Some x → slice_get xs j ≡ Some y → R x y
pair_of R xs i j x y swaps pairs apart first second =
    elim (cases_order i j) [
      | inl is ↦ absurd (apart is)
      | inr (inl below) ↦ pair_at R xs i j x y pairs below first second
      | inr (inr above) ↦ swaps y x (pair_at R xs j i y x pairs above second first)
    ]

-- a fact on each two elements after a push
pub all_pairs_pushed : {X : Type 0} (R : X → X → Type 0) (xs : List X) (y : X) → AllPairs R xs
    → ((k : ℕ) (x : X) → slice_get xs k ≡ Some x → R x y) → AllPairs R (xs ++ y ∷ [])
all_pairs_pushed R xs y pairs last =
    all_pairs_from_slice_get R (xs ++ y ∷ []) (λ i j a b below first second.
    elim (slice_get-push_cases xs y b j second) [
      | inl old ↦
          let before : slice_get xs i ≡ Some a =
          sym (slice_get-append_left xs (y ∷ []) i (omega (arith, below, slice_get_within xs j b old))) ∙ first in
          pair_at R xs i j a b pairs below before old
      | inr new ↦
          let before : slice_get xs i ≡ Some a =
          sym (slice_get-append_left xs (y ∷ []) i (omega (arith, below, new.0))) ∙ first in
          subst (λ v. R a v) (sym new.1) (last i a before)
    ])

-- a fact on each two elements after a write, where it may be swapped and the new element has it with all others
pub all_pairs_set : {X : Type 0} (R : X → X → Type 0) (xs : List X) (at : ℕ) (y : X) → ((a b : X) → R a b → R b a) → AllPairs R xs
    → ((k : ℕ) (x : X) → k ≢ at → slice_get xs k ≡ Some x → R x y) → AllPairs R (set xs at y)
all_pairs_set {X} R xs at y swaps pairs others =
    let new : (k : ℕ) (x : X) → k ≡ at → slice_get (set xs at y) k ≡ Some x → x ≡ y = λ k x is there.
    let there_at : slice_get (set xs at y) at ≡ Some x = subst (λ n. slice_get (set xs at y) n ≡ Some x) is there in
    let within : at < length xs = subst (λ n. at < n) (length-set xs at y) (slice_get_within (set xs at y) at x there_at) in
    same_Some x y (sym there_at ∙ slice_get-set_same xs at y within) in
    let old : (k : ℕ) (x : X) → k ≢ at → slice_get (set xs at y) k ≡ Some x → slice_get xs k ≡ Some x = λ k x other there.
    sym (slice_get-set_other xs at k y other) ∙ there in
    all_pairs_from_slice_get R (set xs at y) (λ i j a b below first second.
    elim (cases_eq i at) [
      | inl is ↦
          let other : j ≢ at = λ same. omega (arith, below, is, same) in
          subst (λ v. R v b) (sym (new i a is first)) (swaps b y (others j b other (old j b other second)))
      | inr other ↦
          elim (cases_eq j at) [
            | inl is ↦ subst (λ v. R a v) (sym (new j b is second)) (others i a other (old i a other first))
            | inr apart ↦ pair_at R xs i j a b pairs below (old i a other first) (old j b apart second)
          ]
    ])

pairs_at : {X : Type 0} (R : X → X → Type 0) (change : X → X) (xs : List X) (at : ℕ) (o : Option X) → slice_get xs at ≡ o
    → ((a b : X) → R a b → R b a) → AllPairs R xs
    → ((k : ℕ) (x y : X) → k ≢ at → slice_get xs k ≡ Some x → slice_get xs at ≡ Some y → R x (change y)) → AllPairs R (updated change xs at)
pairs_at R change xs at None there swaps pairs others = subst (AllPairs R) (sym (updated_none change xs at there)) pairs
pairs_at R change xs at (Some y) there swaps pairs others =
    subst (AllPairs R) (sym (updated_there change xs at y there))
    (all_pairs_set R xs at (change y) swaps pairs (λ k x other found. others k x y other found there))

-- the same after an update
pub all_pairs_updated : {X : Type 0} (R : X → X → Type 0) (change : X → X) (xs : List X) (at : ℕ)
    → ((a b : X) → R a b → R b a) → AllPairs R xs
    → ((k : ℕ) (x y : X) → k ≢ at → slice_get xs k ≡ Some x → slice_get xs at ≡ Some y → R x (change y)) → AllPairs R (updated change xs at)
all_pairs_updated R change xs at swaps pairs others = pairs_at R change xs at (slice_get xs at) refl swaps pairs others

-- a fact on each two elements after an update that changes nothing of what the fact says of the element
pub all_pairs_alike : {X : Type 0} (R : X → X → Type 0) (change : X → X) (xs : List X) (at : ℕ) → AllPairs R xs
    → ((x y : X) → slice_get xs at ≡ Some x → (R x y → R (change x) y) × (R y x → R y (change x))) → AllPairs R (updated change xs at)
all_pairs_alike R change xs at pairs alike =
    all_pairs_from_slice_get R (updated change xs at) (λ i j a b below first second.
    elim (updated_cases change xs at i a first) [
      | inl before ↦
          elim (updated_cases change xs at j b second) [
            | inl after ↦ pair_at R xs i j a b pairs below before.1 after.1
            | inr made ↦
                let x = made.1.0 in
                let there : slice_get xs j ≡ Some x = subst (λ n. slice_get xs n ≡ Some x) (sym made.0) made.1.1 in
                subst (λ v. R a v) (sym made.1.2) ((alike x a made.1.1).1 (pair_at R xs i j a x pairs below before.1 there))
          ]
      | inr made ↦
          let x = made.1.0 in
          let there : slice_get xs i ≡ Some x = subst (λ n. slice_get xs n ≡ Some x) (sym made.0) made.1.1 in
          elim (updated_cases change xs at j b second) [
            | inl after ↦ subst (λ v. R v b) (sym made.1.2) ((alike x b made.1.1).0 (pair_at R xs i j x b pairs below there after.1))
            | inr again ↦ absurd (omega (arith, below, made.0, again.0))
          ]
    ])

-- ---- counts ----

-- how many pass a test after a push
pub count_by-push : {X : Type 0} (p : X → Bool) (xs : List X) (x : X) → count_by p (xs ++ x ∷ []) ≡ count_by p xs + cond (p x) 1 0
count_by-push p xs x =
    sum_by-append (λ y. cond (p y) 1 0) xs (x ∷ []) ∙ ap (λ n. count_by p xs + n) (zero-add (cond (p x) 1 0))

-- how many pass a test after an update, with the old element on the one side and the changed one on the other
pub count_by-updated : {X : Type 0} (p : X → Bool) (change : X → X) (xs : List X) (at : ℕ) (x : X) → slice_get xs at ≡ Some x
    → count_by p (updated change xs at) + cond (p x) 1 0 ≡ count_by p xs + cond (p (change x)) 1 0
count_by-updated {X} p change xs at x there =
    let one : X → ℕ = λ y. cond (p y) 1 0 in
    rw (updated_there change xs at x there)
    (subst (λ old. sum_by one (set xs at (change x)) + one old ≡ sum_by one xs + one (change x))
    (get_or_from_slice_get xs at x x there) (sum_by-set one xs at (change x) x (slice_get_within xs at x there)))

cond_weaker : (a b : Bool) → (a ≡ true → b ≡ true) → cond a 1 0 ≤ cond b 1 0
cond_weaker true true weaker = lit≤ tt
cond_weaker false true weaker = lit≤ tt
cond_weaker false false weaker = lit≤ tt
cond_weaker true false weaker = let is : false ≡ true = weaker refl in cc

-- at least as many elements pass a weaker test
pub count_by_weaker : {X : Type 0} (p q : X → Bool) (xs : List X)
    → ((k : ℕ) (x : X) → slice_get xs k ≡ Some x → p x ≡ true → q x ≡ true) → count_by p xs ≤ count_by q xs
count_by_weaker p q [] weaker = lit≤ tt
count_by_weaker {X} p q (x ∷ xs) weaker =
    let one : (X → Bool) → X → ℕ = λ test y. cond (test y) 1 0 in
    let rest : count_by p xs ≤ count_by q xs = count_by_weaker p q xs (λ k y there. weaker (suc k) y there) in
    let first : one p x ≤ one q x = cond_weaker (p x) (q x) (weaker 0 x refl) in
    rw (sum_by-cons (one p) x xs, sum_by-cons (one q) x xs) (omega (arith, rest, first))
