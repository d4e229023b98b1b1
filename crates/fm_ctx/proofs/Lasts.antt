-- The last number below another one that passes a test.
use Rattle.std.proofs.Common.{◌≡◌, ◌<◌, ◌≤◌, ◌∙◌}
use Rattle.fm_ctx.proofs.Words.{ℕ, zero, suc, Bool, true, false, cond, Option, Some, None, refl, sym, ap, ap₂, arith, inl, inr, cases_eq, none-some}
use Rattle.fm_ctx.proofs.Words.{last_below, cases_Bool}

-- tests that agree below
pub last_agrees : (p q : ℕ → Bool) (n : ℕ) → ((k : ℕ) → k < n → p k ≡ q k) → last_below p n ≡ last_below q n
unfolding last_below
last_agrees p q zero same = refl
last_agrees p q (suc n) same = ap₂ (λ b o. cond b (Some n) o) (same n (omega arith)) (last_agrees p q n (λ k below. same k (omega (arith, below))))

-- numbers that don't pass
pub last_skips : (p : ℕ → Bool) (m n : ℕ) → m ≤ n → ((k : ℕ) → m ≤ k → k < n → p k ≡ false) → last_below p n ≡ last_below p m
unfolding last_below
last_skips p m zero within none = let is : zero ≡ m = omega (arith, within) in ap (last_below p) is
last_skips p m (suc n) within none =
    elim (cases_eq m (suc n)) [
      | inl is ↦ ap (last_below p) (sym is)
      | inr apart ↦ grind (arith, none n, last_skips p m n (omega (arith, within, apart)) (λ k above under. none k above (omega (arith, under))))
    ]

-- tests that agree above a number, where another one above it passes
pub last_above : (p q : ℕ → Bool) (m a n : ℕ) → m < a → a < n → p a ≡ true → ((k : ℕ) → m < k → p k ≡ q k) → last_below p n ≡ last_below q n
unfolding last_below
last_above p q m a zero above within passes same = grind arith
last_above p q m a (suc n) above within passes same =
    elim (cases_eq a n) [
      | inl is ↦ let here : p n ≡ true = ap p (sym is) ∙ passes in grind (arith, same n (omega (arith, above, is)))
      | inr apart ↦
          let under : a < n = omega (arith, within, apart) in
          grind (arith, same n (omega (arith, above, under)), last_above p q m a n above under passes same)
    ]

-- what is known of the last one
pub record IsLast (p : ℕ → Bool) (n last : ℕ) : Type 0 where
  pub below : last < n
  pub passes : p last ≡ true
  pub after : (k : ℕ) → last < k → k < n → p k ≡ false

-- what fails below a number, and at it
below_next : (p : ℕ → Bool) (n k : ℕ) → p n ≡ false → (k < n → p k ≡ false) → k < suc n → p k ≡ false
below_next p n k fails below under = elim (cases_eq k n) [ inl same ↦ ap p same ∙ fails | inr apart ↦ below (omega (arith, under, apart)) ]

pub last_some : (p : ℕ → Bool) (n last : ℕ) → last_below p n ≡ Some last → IsLast p n last
unfolding last_below
last_some p zero last is = absurd (none-some last is)
last_some p (suc n) last is =
    elim (cases_Bool (p n)) [
      | inl passes ↦
          let same : n ≡ last = grind arith in
          record { below = omega (arith, same); passes = ap p (sym same) ∙ passes; after = λ k above under. absurd (omega (arith, same, above, under)) }
      | inr fails ↦
          let l = last_some p n last (grind arith) in
          record { below = omega (arith, l.below); passes = l.passes; after = λ k above under. below_next p n k fails (l.after k above) under }
    ]

pub last_none : (p : ℕ → Bool) (n : ℕ) → last_below p n ≡ None → (k : ℕ) → k < n → p k ≡ false
unfolding last_below
last_none p zero is k under = grind arith
last_none p (suc n) is k under =
    let fails : p n ≡ false = grind arith in
    below_next p n k fails (last_none p n (grind arith) k) under

-- the measure of a walk
abbrev pub height : Option ℕ → ℕ
height None = 0
height (Some k) = suc k

pub last_falls : (p : ℕ → Bool) (n : ℕ) (o next : Option ℕ) → next ≡ Some n → o ≡ last_below p n → height o < height next
last_falls p n None next here is = rw here (omega arith)
last_falls p n (Some k) next here is = rw here (omega (arith, (last_some p n k (sym is)).below))

-- one number more
pub last_passes : (p : ℕ → Bool) (n : ℕ) → p n ≡ true → Some n ≡ last_below p (suc n)
unfolding last_below
last_passes p n passes = rw passes refl

pub last_fails : (p : ℕ → Bool) (n : ℕ) → p n ≡ false → last_below p n ≡ last_below p (suc n)
unfolding last_below
last_fails p n fails = rw fails refl
