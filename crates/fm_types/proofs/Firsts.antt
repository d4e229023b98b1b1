-- The first element of a list that passes a test changes or goes, and all others stay.
use Rattle.std.proofs.Common.{◌≡◌, ℕ, suc, ◌+◌, ◌<◌, ◌≤◌, Bool, true, false, cond, not, List, [], ◌∷◌, length, get_or, set, remove, find, position, Option, Some, None, option_map, nat_lt, refl, ap, sym, ◌∙◌, subst, inl, inr, arith}
use Rattle.std.specs.Prelude.{All, count_by}
use Rattle.std.proofs.lemmas.List.Sums.{sum_by-cons}
use Rattle.std.specs.List.{prefix_len, position_or_len}
use Rattle.std.proofs.lemmas.Bool.Decides.{nat_tests}
use Rattle.std.proofs.lemmas.Bool.{cases_Bool}
use Rattle.std.proofs.lemmas.Option.{same_Some, none-some}
use Rattle.std.proofs.lemmas.List.Elements.{All-nil, All-cons, All-head, All-tail}
use Rattle.fm_types.specs.Lists.{change_first, without_first}

-- whether the first element is found
hit : {A : Type 0} (test : A → Bool) (x : A) (rs : List A) → test x ≡ true → find test (x ∷ rs) ≡ Some x
hit test x rs e = rw e refl

miss : {A : Type 0} (test : A → Bool) (x : A) (rs : List A) → test x ≡ false → find test (x ∷ rs) ≡ find test rs
miss test x rs e = rw e refl

same_hit : {A : Type 0} (test : A → Bool) (x r : A) (rs : List A) → find test (x ∷ rs) ≡ Some r → test x ≡ true → x ≡ r
same_hit test x r rs h e = same_Some x r (sym (hit test x rs e) ∙ h)

pub change_none : {A : Type 0} (test : A → Bool) (f : A → A) (rs : List A) → find test rs ≡ None → change_first test f rs ≡ rs
change_none test f [] h = refl
change_none {A = A} test f (r ∷ rs) h = elim (cases_Bool (test r)) [
  | inl e ↦ absurd (none-some r (sym h ∙ hit test r rs e))
  | inr e ↦ rw e (ap (λ (xs : List A). r ∷ xs) (change_none test f rs (sym (miss test r rs e) ∙ h)))
]

pub without_none : {A : Type 0} (test : A → Bool) (rs : List A) → find test rs ≡ None → without_first test rs ≡ rs
without_none test [] h = refl
without_none {A = A} test (r ∷ rs) h = elim (cases_Bool (test r)) [
  | inl e ↦ absurd (none-some r (sym h ∙ hit test r rs e))
  | inr e ↦ rw e (ap (λ (xs : List A). r ∷ xs) (without_none test rs (sym (miss test r rs e) ∙ h)))
]

-- what holds of each holds of the one that is found
pub found_holds : {A : Type 0} (P : A → Type 0) (test : A → Bool) (rs : List A) (r : A) → All P rs → find test rs ≡ Some r → P r
found_holds P test [] r all h = absurd (none-some r h)
found_holds P test (x ∷ rs) r all h = elim (cases_Bool (test x)) [
  | inl e ↦ subst P (same_hit test x r rs h e) (All-head P x rs all)
  | inr e ↦ found_holds P test rs r (All-tail P x rs all) (sym (miss test x rs e) ∙ h)
]

pub found_passes : {A : Type 0} (test : A → Bool) (rs : List A) (r : A) → find test rs ≡ Some r → test r ≡ true
found_passes test [] r h = absurd (none-some r h)
found_passes test (x ∷ rs) r h = elim (cases_Bool (test x)) [
  | inl e ↦ subst (λ y. test y ≡ true) (same_hit test x r rs h e) e
  | inr e ↦ found_passes test rs r (sym (miss test x rs e) ∙ h)
]

-- what holds of each, and of the changed one, holds of each afterwards
pub all_change : {A : Type 0} (P : A → Type 0) (test : A → Bool) (f : A → A) (rs : List A)
    → ((r : A) → find test rs ≡ Some r → P (f r)) → All P rs → All P (change_first test f rs)
all_change P test f [] h all = All-nil P
all_change P test f (x ∷ rs) h all = elim (cases_Bool (test x)) [
  | inl e ↦ rw e (All-cons P (f x) rs (h x (hit test x rs e)) (All-tail P x rs all))
  | inr e ↦ rw e (All-cons P x (change_first test f rs) (All-head P x rs all)
      (all_change P test f rs (λ r k. h r (miss test x rs e ∙ k)) (All-tail P x rs all)))
]

pub all_without : {A : Type 0} (P : A → Type 0) (test : A → Bool) (rs : List A) → All P rs → All P (without_first test rs)
all_without P test [] all = All-nil P
all_without P test (x ∷ rs) all = elim (cases_Bool (test x)) [
  | inl e ↦ rw e (All-tail P x rs all)
  | inr e ↦ rw e (All-cons P x (without_first test rs) (All-head P x rs all) (all_without P test rs (All-tail P x rs all)))
]

-- a change that keeps what the test reads is found again
pub find_changed : {A : Type 0} (test : A → Bool) (f : A → A) (rs : List A) → ((r : A) → test (f r) ≡ test r)
    → find test (change_first test f rs) ≡ option_map f (find test rs)
find_changed test f [] same = refl
find_changed test f (x ∷ rs) same = elim (cases_Bool (test x)) [
  | inl e ↦ rw e (hit test (f x) rs (same x ∙ e))
  | inr e ↦ rw e (miss test x (change_first test f rs) e ∙ find_changed test f rs same)
]

-- a test that no changed element passes, before or after, finds what it found
pub find_unchanged : {A : Type 0} (test other : A → Bool) (f : A → A) (rs : List A)
    → ((r : A) → test r ≡ true → (other r ≡ false) × (other (f r) ≡ false))
    → find other (change_first test f rs) ≡ find other rs
find_unchanged test other f [] apart = refl
find_unchanged {A = A} test other f (x ∷ rs) apart = elim (cases_Bool (test x)) [
  | inl e ↦ let k = apart x e in rw e (miss other (f x) rs k.1 ∙ sym (miss other x rs k.0))
  | inr e ↦ rw e (ap (λ (m : Option A). cond (other x) (Some x) m) (find_unchanged test other f rs apart))
]

-- the list without it finds what it found
pub find_without : {A : Type 0} (test other : A → Bool) (rs : List A) → ((r : A) → test r ≡ true → other r ≡ false)
    → find other (without_first test rs) ≡ find other rs
find_without test other [] apart = refl
find_without {A = A} test other (x ∷ rs) apart = elim (cases_Bool (test x)) [
  | inl e ↦ rw e (sym (miss other x rs (apart x e)))
  | inr e ↦ rw e (ap (λ (m : Option A). cond (other x) (Some x) m) (find_without test other rs apart))
]

-- ---- its place

-- the first that passes stands at that place
pub record StandsThere {A : Type 0} (p : A → Bool) (rs : List A) (k : ℕ) (d : A) : Type 0 where
  pub found : find p rs ≡ Some (get_or rs k d)
  pub writes : (f : A → A) → set rs k (f (get_or rs k d)) ≡ change_first p f rs
  pub goes : remove rs k ≡ without_first p rs
  pub inside : k < length rs

pub stands_at : {A : Type 0} (p : A → Bool) (rs : List A) (k : ℕ) (d : A) → prefix_len (λ x. not (p x)) rs ≡ k → k < length rs → StandsThere p rs k d
stands_at {A = A} p [] k d is below = absurd (omega arith)
stands_at {A = A} p (x ∷ rs) k d is below = elim (cases_Bool (p x)) [
  | inl yes' ↦
      let e : k ≡ 0 = sym is ∙ ap (λ b. cond (not b) (1 + prefix_len (λ y. not (p y)) rs) 0) yes' in
      rw e (record { found = rw yes' refl; writes = λ f. rw yes' refl; goes = rw yes' refl; inside = omega arith })
  | inr no' ↦
      let m : ℕ = prefix_len (λ y. not (p y)) rs in
      let e' : 1 + prefix_len (λ y. not (p y)) rs ≡ k = sym (ap (λ b. cond (not b) (1 + prefix_len (λ y. not (p y)) rs) 0) no') ∙ is in
      let e : k ≡ suc (prefix_len (λ y. not (p y)) rs) = omega (arith, e') in
      let l : prefix_len (λ y. not (p y)) rs < length rs = omega (arith, e', below) in
      let h = stands_at p rs (prefix_len (λ y. not (p y)) rs) d refl l in
      rw e (record {
        found = rw no' h.found;
        writes = λ f. rw no' (ap (λ (xs : List A). x ∷ xs) (h.writes f));
        goes = rw no' (ap (λ (xs : List A). x ∷ xs) h.goes);
        inside = omega (arith, l);
      })
]

position_at : (b : Bool) (n k : ℕ) → cond b (Some n) None ≡ Some k → (b ≡ true) × (n ≡ k)
position_at true n k is = (refl, same_Some n k is)
position_at false n k is = absurd (none-some k is)

pub stands_there : {A : Type 0} (p : A → Bool) (rs : List A) (k : ℕ) (d : A) → position p rs ≡ Some k → StandsThere p rs k d
stands_there p rs k d is =
    let parts = position_at (nat_lt (position_or_len p rs) (length rs)) (position_or_len p rs) k is in
    let below' : position_or_len p rs < length rs = grind (arith, nat_tests, parts.0) in
    stands_at p rs k d parts.1 (omega (arith, below', parts.1))

none_passes : {A : Type 0} (p : A → Bool) (rs : List A) → length rs ≤ prefix_len (λ x. not (p x)) rs → find p rs ≡ None
none_passes p [] far = refl
none_passes p (x ∷ rs) far = elim (cases_Bool (p x)) [
  | inl yes' ↦ let e = ap (λ b. cond (not b) (1 + prefix_len (λ y. not (p y)) rs) 0) yes' in absurd (omega (arith, e, far))
  | inr no' ↦ let e = ap (λ b. cond (not b) (1 + prefix_len (λ y. not (p y)) rs) 0) no' in rw no' (none_passes p rs (omega (arith, e, far)))
]

position_past : (b : Bool) (n : ℕ) → cond b (Some n) None ≡ None → b ≡ false
position_past true n is = absurd (none-some n (sym is))
position_past false n is = refl

pub absent : {A : Type 0} (p : A → Bool) (rs : List A) → position p rs ≡ None → find p rs ≡ None
absent p rs is =
    let past = position_past (nat_lt (position_or_len p rs) (length rs)) (position_or_len p rs) is in
    let far : length rs ≤ position_or_len p rs = grind (arith, nat_tests, past) in
    none_passes p rs far

-- what is read at the first place that passes is what is found
pub found_read : {A : Type 0} (p : A → Bool) (rs : List A) (k : ℕ) (x : A) → position p rs ≡ Some k → x ≡ get_or rs k x → Some x ≡ find p rs
found_read p rs k x is read = ap Some read ∙ sym (stands_there p rs k x is).found

-- ---- how many pass another test

pub count-cons : {A : Type 0} (p : A → Bool) (x : A) (xs : List A) → count_by p (x ∷ xs) ≡ cond (p x) 1 0 + count_by p xs
count-cons p x xs = sum_by-cons (λ y. cond (p y) 1 0) x xs

pub count_changed : {A : Type 0} (counts : A → Bool) (test : A → Bool) (f : A → A) (rs : List A) (r : A) → find test rs ≡ Some r
    → count_by counts (change_first test f rs) + cond (counts r) 1 0 ≡ count_by counts rs + cond (counts (f r)) 1 0
count_changed counts test f [] r h = absurd (none-some r h)
count_changed {A = A} counts test f (x ∷ rs) r h = elim (cases_Bool (test x)) [
  | inl e ↦ rw e (subst (λ (y : A). count_by counts (f x ∷ rs) + cond (counts y) 1 0 ≡ count_by counts (x ∷ rs) + cond (counts (f y)) 1 0)
      (same_hit test x r rs h e) (omega (arith, count-cons counts (f x) rs, count-cons counts x rs)))
  | inr e ↦
      let rest = count_changed counts test f rs r (sym (miss test x rs e) ∙ h) in
      rw e (omega (arith, count-cons counts x (change_first test f rs), count-cons counts x rs, rest))
]

pub count_without : {A : Type 0} (counts : A → Bool) (test : A → Bool) (rs : List A) → count_by counts (without_first test rs) ≤ count_by counts rs
count_without counts test [] = omega arith
count_without counts test (x ∷ rs) = elim (cases_Bool (test x)) [
  | inl e ↦ rw e (omega (arith, count-cons counts x rs))
  | inr e ↦ rw e (omega (arith, count-cons counts x (without_first test rs), count-cons counts x rs, count_without counts test rs))
]

-- one that is found counts
pub found_counts : {A : Type 0} (counts : A → Bool) (test : A → Bool) (rs : List A) (r : A) → find test rs ≡ Some r → counts r ≡ true → 1 ≤ count_by counts rs
found_counts counts test [] r h passes = absurd (none-some r h)
found_counts {A = A} counts test (x ∷ rs) r h passes = elim (cases_Bool (test x)) [
  | inl e ↦
      let one : ◌≡◌ {A = ℕ} (cond (counts x) 1 0) 1 = ap (λ (y : A). cond (counts y) 1 0) (same_hit test x r rs h e) ∙ ap (λ b. cond b 1 0) passes in
      omega (arith, count-cons counts x rs, one)
  | inr e ↦ omega (arith, count-cons counts x rs, found_counts counts test rs r (sym (miss test x rs e) ∙ h) passes)
]

-- ---- how long the list is

pub length_change : {A : Type 0} (test : A → Bool) (f : A → A) (rs : List A) → length (change_first test f rs) ≡ length rs
length_change test f [] = refl
length_change test f (x ∷ rs) = elim (cases_Bool (test x)) [ inl e ↦ rw e refl | inr e ↦ rw e (ap suc (length_change test f rs)) ]

pub length_without : {A : Type 0} (test : A → Bool) (rs : List A) → length (without_first test rs) ≤ length rs
length_without test [] = omega arith
length_without test (x ∷ rs) = elim (cases_Bool (test x)) [ inl e ↦ rw e (omega arith) | inr e ↦ rw e (omega (arith, length_without test rs)) ]
