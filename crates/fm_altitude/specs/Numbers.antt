-- What is known of the numbers that digits write.
use Rattle.std.proofs.Common.{◌≡◌, ◌+◌, ◌-◌, ◌*◌, ◌^◌, ◌≤◌, ◌<◌, ◌==◌, ℕ, true, List, [], ◌∷◌, ◌++◌, length, refl, ap, inl, inr, arith, length-append, lit<}
use Rattle.std.proofs.Math.Nat.{mul-le-mul_right, one-le-pow, pow-suc}
use Rattle.std.proofs.lemmas.Bool.{cases_Bool, eqb-true}
use Rattle.std.proofs.lemmas.Bool.Decides.{nat_tests}
use Rattle.std.proofs.lemmas.Nat.{pow-add}
use Rattle.std.specs.Char.{is_ascii_digit, IsAsciiDigit}
use Rattle.std.specs.List.{AllByRecursion}
use Rattle.fm_altitude.specs.Grammar.{after_point, before_point, digits}
use Rattle.fm_altitude.specs.Order.{number}

abbrev pub AreDigits : List ℕ → Type 0
AreDigits text = AllByRecursion IsAsciiDigit text

pub digit_from_test : (b : ℕ) → is_ascii_digit b ≡ true → IsAsciiDigit b
digit_from_test b h = grind (arith, nat_tests)

pub test_from_digit : (b : ℕ) → IsAsciiDigit b → is_ascii_digit b ≡ true
test_from_digit b h = grind (arith, nat_tests)

-- what a filter for digits leaves are digits, and digits are left as they are
pub AreDigits-digits : (text : List ℕ) → AreDigits (digits text)
AreDigits-digits [] = tt
AreDigits-digits (b ∷ bs) = elim (cases_Bool (is_ascii_digit b)) [
  | inl is ↦ rw is (digit_from_test b is, AreDigits-digits bs)
  | inr is ↦ rw is (AreDigits-digits bs)
]

pub digits-same : (text : List ℕ) → AreDigits text → digits text ≡ text
digits-same [] h = refl
digits-same (b ∷ bs) h = rw (test_from_digit b h.0) (ap (λ (rest : List ℕ). b ∷ rest) (digits-same bs h.1))

-- the digits of a text are those before the point and those after it
pub digits-parts : (text : List ℕ) → digits text ≡ digits (before_point text) ++ digits (after_point text)
digits-parts [] = refl
digits-parts (b ∷ bs) = elim (cases_Bool (b == 46)) [
  | inl point ↦ let same : b ≡ 46 = eqb-true b 46 point in rw same refl
  | inr other ↦ rw other (elim (cases_Bool (is_ascii_digit b)) [
    | inl is ↦ rw is (ap (λ (rest : List ℕ). b ∷ rest) (digits-parts bs))
    | inr is ↦ rw is (digits-parts bs)
  ])
]

pub number-append : (u v : List ℕ) → number (u ++ v) ≡ number u * 10 ^ length v + number v
number-append [] v = omega arith
number-append (d ∷ ds) v = rw (length-append ds v, pow-add 10 (length ds) (length v), number-append ds v) (omega arith)

pub number-below : (ds : List ℕ) → AreDigits ds → number ds < 10 ^ length ds
number-below [] h = lit< tt
number-below (d ∷ ds) h =
    let here : (d - 48) * 10 ^ length ds ≤ 9 * 10 ^ length ds = mul-le-mul_right (10 ^ length ds) (omega (arith, h.0)) in
    let rest : number ds < 10 ^ length ds = number-below ds h.1 in
    rw (pow-suc 10 (length ds)) (omega arith)

pub ten_positive : (n : ℕ) → 0 < 10 ^ n
ten_positive n = one-le-pow n 10 (omega arith)

-- digits whose first is no zero are worth at least a one with as many zeros behind
pub number-first : (d : ℕ) (ds : List ℕ) → 48 < d → 10 ^ length ds ≤ number (d ∷ ds)
number-first d ds h =
    let here : 1 * 10 ^ length ds ≤ (d - 48) * 10 ^ length ds = mul-le-mul_right (10 ^ length ds) (omega arith) in
    omega arith
