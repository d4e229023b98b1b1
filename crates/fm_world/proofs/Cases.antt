-- Proofs by cases: on a test, on what a look-up finds, and on the places of a list; and counts over two lists, element by element.
use Rattle.fm_world.proofs.Words.{count-cons, slice_get-set_other, slice_get-set_same, updated-other, updated-same, updated, All, Bool, List, None, Option}
use Rattle.fm_world.proofs.Words.{Some, [], ap, arith, cond, count_by, false, length, refl, slice_get, slice_set, suc, true, zero, ℕ, ◌+◌, ◌<◌, ◌∙◌, ◌∷◌, ◌≡◌}
use Rattle.fm_world.proofs.Words.{◌≢◌, ◌≤◌, cases_eq, or_parts, common_steps, none-some, same_Some, list_any}

pub by_bool : (P : Bool → Type 0) (b : Bool) → (b ≡ true → P true) → (b ≡ false → P false) → P b
by_bool P b passes fails = grind arith

pub by_option : {A : Type 0} (P : Option A → Type 0) (m : Option A) → (m ≡ None → P None) → ((x : A) → m ≡ Some x → P (Some x)) → P m
by_option P m none some = grind arith

-- what passes a test that nothing doesn't pass is there
pub some_of : {A : Type 0} (test : Option A → Bool) (m : Option A) → test None ≡ false → test m ≡ true → (x : A) × (m ≡ Some x)
some_of test m none h = grind arith

-- what holds of each place of a list after a write, or after a change, of one of them
pub at_written : {A : Type 0} (P : ℕ → Option A → Type 0) (xs : List A) (k : ℕ) (x : A) → k < length xs → P k (Some x)
    → ((j : ℕ) → j ≢ k → P j (slice_get xs j))
    → (j : ℕ) → P j (slice_get (slice_set xs k x) j)
at_written P xs k x within here others j = grind (arith, cases_eq, slice_get-set_same, slice_get-set_other)

pub at_updated : {A : Type 0} (P : ℕ → Option A → Type 0) (f : A → A) (xs : List A) (k : ℕ) (x : A) → slice_get xs k ≡ Some x → P k (Some (f x))
    → ((j : ℕ) → j ≢ k → P j (slice_get xs j)) → (j : ℕ) → P j (slice_get (updated f xs k) j)
at_updated P f xs k x there here others j = grind (arith, cases_eq, updated-same, updated-other)

if_true : (b : Bool) → b ≡ true → ◌≡◌ {A = ℕ} (cond b 1 0) 1
if_true b h = rw h refl

if_false : (b : Bool) → b ≡ false → ◌≡◌ {A = ℕ} (cond b 1 0) 0
if_false b h = rw h refl

-- a test that counts passes
pub one_true : (b : Bool) → 1 ≤ cond b 1 0 → b ≡ true
one_true b h = grind arith

-- an element that passes is counted
pub count-some : {X : Type 0} (p : X → Bool) (xs : List X) (i : ℕ) (x : X) → slice_get xs i ≡ Some x → p x ≡ true → 1 ≤ count_by p xs
count-some p [] i x h t = cc
count-some p (y ∷ ys) zero x h t = omega (arith, if_true (p y) (ap p (same_Some y x h) ∙ t), count-cons p y ys)
count-some p (y ∷ ys) (suc i) x h t = grind (arith, common_steps, (count-some p ys i x))

-- where none counts, none passes
pub none_pass : {X : Type 0} (p : X → Bool) (xs : List X) → count_by p xs ≡ 0 → All (λ x. p x ≡ false) xs
none_pass p xs h2 = grind (arith, common_steps)

-- where none passes, none counts
pub none_any : {X : Type 0} (p : X → Bool) (xs : List X) → list_any p xs ≡ false → count_by p xs ≡ 0
none_any p [] h = refl
none_any p (x ∷ xs) h =
    let parts = or_parts (p x) (list_any p xs) h in
    omega (arith, if_false (p x) parts.0, none_any p xs parts.1, count-cons p x xs)

pub one-le : (a b : Bool) → (a ≡ true → b ≡ true) → cond a 1 0 ≤ cond b 1 0
one-le a b h = grind arith

-- where each element that passes q stands at the place of one that passes p, q counts no more than p
pub count-le : {X : Type 0} (p q : X → Bool) (xs ys : List X)
    → ((i : ℕ) (y : X) → slice_get ys i ≡ Some y → q y ≡ true → (x : X) × (slice_get xs i ≡ Some x) × (p x ≡ true))
    → count_by q ys ≤ count_by p xs
count-le p q xs [] h = omega arith
count-le p q [] (y ∷ ys) h =
    let rest : count_by q ys ≤ count_by p [] = count-le p q [] ys (λ i z a b. let k = h (suc i) z a b in absurd (none-some k.0 k.1)) in
    let none : cond (q y) 1 0 ≤ 0 = one-le (q y) false (λ t. let k = h 0 y refl t in absurd (none-some k.0 k.1)) in
    omega (arith, rest, none, count-cons q y ys)
count-le p q (x ∷ xs) (y ∷ ys) h =
    let rest : count_by q ys ≤ count_by p xs = count-le p q xs ys (λ i z a b. h (suc i) z a b) in
    let one : cond (q y) 1 0 ≤ cond (p x) 1 0 =
    one-le (q y) (p x) (λ t. let k = h 0 y refl t in rw (same_Some x k.0 k.1) k.2) in
    omega (arith, rest, one, count-cons q y ys, count-cons p x xs)

-- where q implies p, and one element passes p but not q, q counts fewer
pub count-lt : {X : Type 0} (p q : X → Bool) (xs : List X) (i : ℕ) (x : X) → slice_get xs i ≡ Some x → p x ≡ true → q x ≡ false
    → ((y : X) → q y ≡ true → p y ≡ true) → count_by q xs + 1 ≤ count_by p xs
count-lt p q [] i x h t f k = cc
count-lt p q (y ∷ ys) zero x h t f k = grind (arith, count-le, if_true, if_false, count-cons, one-le)
count-lt p q (y ∷ ys) (suc i) x h t f k = grind (arith, count-le, if_true, if_false, count-cons, one-le, (count-lt p q ys i x))
