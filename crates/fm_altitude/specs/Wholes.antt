-- Whole numbers without leading zeros compare by their length, and then digit by digit.
use Rattle.std.proofs.Common.{◌≡◌, ◌-◌, ◌^◌, ◌≤◌, ◌<◌, ◌==◌, ℕ, List, [], ◌∷◌, length, refl, sym, ap, ◌∙◌, inl, inr, arith}
use Rattle.std.proofs.Math.Nat.{pow-le-pow_right}
use Rattle.std.proofs.lemmas.Bool.{cases_Bool, eqb-true, eqb-false}
use Rattle.std.proofs.lemmas.Cmp.{by_ranked, ranked}
use Rattle.std.specs.Cmp.Lexicographic.{slice_cmp}
use Rattle.std.specs.Ordering.{nat_cmp, ordering_then}
use Rattle.std.specs.declared.cmp.Ordering.{Ordering}
use Rattle.fm_altitude.specs.Comparing.{cmp_parts, nat_cmp_greater, nat_cmp_less, same_cmp}
use Rattle.fm_altitude.specs.Order.{number}
use Rattle.fm_altitude.specs.Grammar.{trim_front}
use Rattle.fm_altitude.specs.Numbers.{AreDigits, number-below, number-first}

pub number-trim_front : (ds : List ℕ) → number (trim_front ds) ≡ number ds
number-trim_front [] = refl
number-trim_front (d ∷ ds) = elim (cases_Bool (d == 48)) [
  | inl is ↦ let zero_digit : d ≡ 48 = eqb-true d 48 is in rw zero_digit (omega (arith, number-trim_front ds))
  | inr is ↦ rw is refl
]

-- the first digit, where there is one, is no zero
abbrev pub LeadsWell : List ℕ → Type 0
LeadsWell [] = Unit {0}
LeadsWell (d ∷ ds) = 48 < d

pub AreDigits-trim_front : (ds : List ℕ) → AreDigits ds → AreDigits (trim_front ds)
AreDigits-trim_front [] h = tt
AreDigits-trim_front (d ∷ ds) h = elim (cases_Bool (d == 48)) [
  | inl is ↦ rw is (AreDigits-trim_front ds h.1)
  | inr is ↦ rw is h
]

pub LeadsWell-trim_front : (ds : List ℕ) → AreDigits ds → LeadsWell (trim_front ds)
LeadsWell-trim_front [] h = tt
LeadsWell-trim_front (d ∷ ds) h = elim (cases_Bool (d == 48)) [
  | inl is ↦ rw is (LeadsWell-trim_front ds h.1)
  | inr is ↦ let other : d ≡ 48 → ⊥ = eqb-false d 48 is in rw is (omega (arith, h.0))
]

pub trim_front-again : (ds : List ℕ) → trim_front (trim_front ds) ≡ trim_front ds
trim_front-again [] = refl
trim_front-again (d ∷ ds) = elim (cases_Bool (d == 48)) [
  | inl is ↦ rw is (trim_front-again ds)
  | inr is ↦ rw (is, is) refl
]

-- as many digits
same_length_cmp : (u v : List ℕ) → AreDigits u → AreDigits v → length u ≡ length v → nat_cmp (number u) (number v) ≡ slice_cmp nat_cmp u v
same_length_cmp [] [] low high same = refl
same_length_cmp [] (e ∷ v) low high same = absurd (omega arith)
same_length_cmp (d ∷ u) [] low high same = absurd (omega arith)
same_length_cmp (d ∷ u) (e ∷ v) low high same =
    let tail : length u ≡ length v = omega arith in
    rw (sym tail)
    (cmp_parts (d - 48) (e - 48) (10 ^ length u) (number u) (number v) (number-below u low.1) (rw tail (number-below v high.1))
    ∙ ap (λ (o : Ordering). ordering_then o (nat_cmp (number u) (number v)))
    (same_cmp d e (d - 48) (e - 48) (λ h. omega (arith, low.0)) (λ h. omega arith) (λ h. omega (arith, high.0)))
    ∙ ap (ordering_then (nat_cmp d e)) (same_length_cmp u v low.1 high.1 tail))

-- fewer digits
shorter_below : (u v : List ℕ) → AreDigits u → LeadsWell v → length u < length v → number u < number v
shorter_below u [] low leads short = absurd (omega arith)
shorter_below u (e ∷ v) low leads short =
    let below : number u < 10 ^ length u = number-below u low in
    let powers : 10 ^ length u ≤ 10 ^ length v = pow-le-pow_right (omega arith) (omega arith) in
    let above : 10 ^ length v ≤ number (e ∷ v) = number-first e v leads in
    omega arith

pub whole_cmp : (u v : List ℕ) → AreDigits u → AreDigits v → LeadsWell u → LeadsWell v →
    nat_cmp (number u) (number v) ≡ ordering_then (nat_cmp (length u) (length v)) (slice_cmp nat_cmp u v)
whole_cmp u v low high first second =
    by_ranked (length u < length v) (length u ≡ length v) (length v < length u) (nat_cmp (length u) (length v)) (ranked (length u) (length v) _ refl)
    (λ is h. rw is (nat_cmp_less _ _ (shorter_below u v low second h)))
    (λ is h. rw is (same_length_cmp u v low high h))
    (λ is h. rw is (nat_cmp_greater _ _ (shorter_below v u high first h)))
