-- Fractions without trailing zeros compare digit by digit.
use Rattle.std.proofs.Common.{◌≡◌, ◌+◌, ◌-◌, ◌*◌, ◌^◌, ◌≤◌, ◌<◌, ◌==◌, ◌⊎◌, ℕ, suc, cond, List, [], ◌∷◌, length, refl, sym, ap, ◌∙◌, inl, inr, arith}
use Rattle.std.proofs.Math.Nat.{mul-lt-mul_of_pos_right, pow-suc}
use Rattle.std.proofs.lemmas.Bool.{cases_Bool, eqb-true, eqb-false}
use Rattle.std.proofs.lemmas.Cmp.{by_ranked, ranked}
use Rattle.std.specs.Cmp.Lexicographic.{slice_cmp}
use Rattle.std.specs.Ordering.{nat_cmp, ordering_then}
use Rattle.std.specs.declared.cmp.Ordering.{Ordering}
use Rattle.std.specs.declared.cmp.Ordering.TheVariants.{Less, Equal, Greater}
use Rattle.fm_altitude.specs.Comparing.{cmp_parts, cmp_scale, nat_cmp_equal, nat_cmp_greater, nat_cmp_less, same_cmp}
use Rattle.fm_altitude.specs.Order.{number}
use Rattle.fm_altitude.specs.Grammar.{before_trimmed, trim_back}
use Rattle.fm_altitude.specs.Numbers.{AreDigits, number-below, number-first, ten_positive}

-- digits are all zeros, or worth something
pub zero_or_more : (v : List ℕ) → AreDigits v →
    ((trim_back v ≡ []) × (number v ≡ 0)) ⊎ ((x : ℕ) × (xs : List ℕ) × (trim_back v ≡ x ∷ xs) × (0 < number v))
zero_or_more [] h = inl (refl, refl)
zero_or_more (e ∷ es) h = elim (zero_or_more es h.1) [
  | inl none ↦ elim (cases_Bool (e == 48)) [
    | inl is ↦ let zero_digit : e ≡ 48 = eqb-true e 48 is in inl (rw (none.0, is) refl, rw zero_digit (omega (arith, none.1)))
    | inr is ↦
        let other : e ≡ 48 → ⊥ = eqb-false e 48 is in
        let first : 48 < e = omega (arith, h.0) in
        let worth : 10 ^ length es ≤ number (e ∷ es) = number-first e es first in
        let positive : 0 < 10 ^ length es = ten_positive (length es) in
        inr (e, [], rw (none.0, is) refl, omega arith)
  ]
  | inr some ↦ inr (e, some.0 ∷ some.1, rw some.2 refl, omega (arith, some.3))
]

merge_first : (d e y : ℕ) (ys : List ℕ) → 48 ≤ e →
    slice_cmp nat_cmp (cond (d == 48) [] (d ∷ [])) (e ∷ y ∷ ys) ≡ ordering_then (nat_cmp d e) Less
merge_first d e y ys high = elim (cases_Bool (d == 48)) [
  | inl is ↦ let zero_digit : d ≡ 48 = eqb-true d 48 is in rw is (
      by_ranked (d < e) (d ≡ e) (e < d) (nat_cmp d e) (ranked d e _ refl)
      (λ less h. rw less refl) (λ equal h. rw equal refl) (λ greater h. absurd (omega arith)))
  | inr is ↦ rw is refl
]

merge_second : (d e x : ℕ) (xs : List ℕ) → 48 ≤ d →
    slice_cmp nat_cmp (d ∷ x ∷ xs) (cond (e == 48) [] (e ∷ [])) ≡ ordering_then (nat_cmp d e) Greater
merge_second d e x xs high = elim (cases_Bool (e == 48)) [
  | inl is ↦ let zero_digit : e ≡ 48 = eqb-true e 48 is in rw is (
      by_ranked (d < e) (d ≡ e) (e < d) (nat_cmp d e) (ranked d e _ refl)
      (λ less h. absurd (omega arith)) (λ equal h. rw equal refl) (λ greater h. rw greater refl))
  | inr is ↦ rw is refl
]

merge_ends : (d e : ℕ) → 48 ≤ d → 48 ≤ e →
    slice_cmp nat_cmp (cond (d == 48) [] (d ∷ [])) (cond (e == 48) [] (e ∷ [])) ≡ ordering_then (nat_cmp d e) Equal
merge_ends d e low high = elim (cases_Bool (d == 48)) [
  | inl is ↦
      let zero_digit : d ≡ 48 = eqb-true d 48 is in
      elim (cases_Bool (e == 48)) [
        | inl also ↦ let other_digit : e ≡ 48 = eqb-true e 48 also in rw (zero_digit, other_digit) refl
        | inr more ↦
            let other : e ≡ 48 → ⊥ = eqb-false e 48 more in
            rw (is, more, nat_cmp_less d e (omega arith)) refl
      ]
  | inr is ↦
      let other : d ≡ 48 → ⊥ = eqb-false d 48 is in
      elim (cases_Bool (e == 48)) [
        | inl also ↦
            let other_digit : e ≡ 48 = eqb-true e 48 also in
            rw (is, also, nat_cmp_greater d e (omega arith)) refl
        | inr more ↦ rw (is, more) refl
      ]
]

-- a digit before what is left of two fractions
merge : (d e : ℕ) (us vs : List ℕ) → 48 ≤ d → 48 ≤ e →
    slice_cmp nat_cmp (before_trimmed d us) (before_trimmed e vs) ≡ ordering_then (nat_cmp d e) (slice_cmp nat_cmp us vs)
merge d e [] [] low high = merge_ends d e low high
merge d e [] (y ∷ ys) low high = merge_first d e y ys high
merge d e (x ∷ xs) [] low high = merge_second d e x xs low
merge d e (x ∷ xs) (y ∷ ys) low high = refl

-- a fraction of one digit more, over the common power of ten
grown : (d n p q : ℕ) → (d * p + n) * (q * 10) ≡ d * (p * q * 10) + (n * q) * 10
grown d n p q = omega arith

grown_back : (d n p q : ℕ) → (d * q + n) * (p * 10) ≡ d * (p * q * 10) + (n * p) * 10
grown_back d n p q = omega arith

pub fraction_cmp : (u v : List ℕ) → AreDigits u → AreDigits v →
    nat_cmp (number u * 10 ^ length v) (number v * 10 ^ length u) ≡ slice_cmp nat_cmp (trim_back u) (trim_back v)
fraction_cmp [] v low high = elim (zero_or_more v high) [
  | inl none ↦ rw none.0 (nat_cmp_equal (0 * 10 ^ length v) (number v * 10 ^ 0) (omega (arith, none.1)))
  | inr some ↦ rw some.2 (nat_cmp_less (0 * 10 ^ length v) (number v * 10 ^ 0) (omega (arith, some.3)))
]
fraction_cmp (d ∷ u) [] low high = elim (zero_or_more (d ∷ u) low) [
  | inl none ↦ rw none.0 (nat_cmp_equal (number (d ∷ u) * 10 ^ 0) (0 * 10 ^ suc (length u)) (omega (arith, none.1)))
  | inr some ↦ rw some.2 (nat_cmp_greater (number (d ∷ u) * 10 ^ 0) (0 * 10 ^ suc (length u)) (omega (arith, some.3)))
]
fraction_cmp (d ∷ u) (e ∷ v) low high =
    let p = 10 ^ length u in
    let q = 10 ^ length v in
    let left : number (d ∷ u) * 10 ^ suc (length v) ≡ (d - 48) * (p * q * 10) + (number u * q) * 10 =
    rw (pow-suc 10 (length v)) (grown (d - 48) (number u) p q) in
    let right : number (e ∷ v) * 10 ^ suc (length u) ≡ (e - 48) * (p * q * 10) + (number v * p) * 10 =
    rw (pow-suc 10 (length u)) (grown_back (e - 48) (number v) p q) in
    let small : number u * q < p * q = mul-lt-mul_of_pos_right (number-below u low.1) (ten_positive (length v)) in
    let small_back : number v * p < q * p = mul-lt-mul_of_pos_right (number-below v high.1) (ten_positive (length u)) in
    rw (left, right)
    (cmp_parts (d - 48) (e - 48) (p * q * 10) ((number u * q) * 10) ((number v * p) * 10) (omega arith) (omega arith)
    ∙ ap (λ (o : Ordering). ordering_then o (nat_cmp ((number u * q) * 10) ((number v * p) * 10)))
    (same_cmp d e (d - 48) (e - 48) (λ h. omega (arith, low.0)) (λ h. omega arith) (λ h. omega (arith, high.0)))
    ∙ ap (ordering_then (nat_cmp d e)) (cmp_scale 10 (number u * q) (number v * p) (omega arith) ∙ fraction_cmp u v low.1 high.1)
    ∙ sym (merge d e (trim_back u) (trim_back v) (omega (arith, low.0)) (omega (arith, high.0))))
