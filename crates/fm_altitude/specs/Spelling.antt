-- The canonical text is an altitude, reads back as the same one, and is never longer than what was read.
use Rattle.std.proofs.Common.{◌≡◌, ◌+◌, ◌≤◌, ◌<◌, ◌==◌, ◌⊎◌, ℕ, false, List, [], ◌∷◌, ◌++◌, length, refl, ap, inl, inr, arith, length-append, lit≤}
use Rattle.std.proofs.lemmas.Bool.{cases_Bool}
use Rattle.std.proofs.lemmas.Bool.Decides.{nat_tests}
use Rattle.std.specs.Char.{is_ascii_digit, IsAsciiDigit}
use Rattle.fm_altitude.specs.Grammar.{after_point, before_point, before_trimmed, canonical, digits, fraction_of, spelled, trim_back, trim_front, whole_of}
use Rattle.fm_altitude.specs.Numbers.{AreDigits, AreDigits-digits, digits-same}
use Rattle.fm_altitude.specs.Wholes.{AreDigits-trim_front, trim_front-again}

no_point : (d : ℕ) → IsAsciiDigit d → (d == 46) ≡ false
no_point d h = grind (arith, nat_tests)

-- ---- the parts of digits, with and without a point

pub before_point-digits : (w : List ℕ) → AreDigits w → before_point w ≡ w
before_point-digits [] h = refl
before_point-digits (d ∷ w) h = rw (no_point d h.0) (ap (λ (rest : List ℕ). d ∷ rest) (before_point-digits w h.1))

pub after_point-digits : (w : List ℕ) → AreDigits w → after_point w ≡ []
after_point-digits [] h = refl
after_point-digits (d ∷ w) h = rw (no_point d h.0) (after_point-digits w h.1)

before_point-join : (w f : List ℕ) → AreDigits w → before_point (w ++ 46 ∷ f) ≡ w
before_point-join [] f h = refl
before_point-join (d ∷ w) f h = rw (no_point d h.0) (ap (λ (rest : List ℕ). d ∷ rest) (before_point-join w f h.1))

after_point-join : (w f : List ℕ) → AreDigits w → after_point (w ++ 46 ∷ f) ≡ f
after_point-join [] f h = refl
after_point-join (d ∷ w) f h = rw (no_point d h.0) (after_point-join w f h.1)

-- ---- trimming

AreDigits-before_trimmed : (d : ℕ) (es : List ℕ) → IsAsciiDigit d → AreDigits es → AreDigits (before_trimmed d es)
AreDigits-before_trimmed d [] here rest = elim (cases_Bool (d == 48)) [
  | inl is ↦ rw is tt
  | inr is ↦ rw is (here, tt)
]
AreDigits-before_trimmed d (e ∷ es) here rest = (here, rest)

pub AreDigits-trim_back : (ds : List ℕ) → AreDigits ds → AreDigits (trim_back ds)
AreDigits-trim_back [] h = tt
AreDigits-trim_back (d ∷ ds) h = AreDigits-before_trimmed d (trim_back ds) h.0 (AreDigits-trim_back ds h.1)

before_trimmed-again : (d : ℕ) (es : List ℕ) → trim_back es ≡ es → trim_back (before_trimmed d es) ≡ before_trimmed d es
before_trimmed-again d [] same = elim (cases_Bool (d == 48)) [
  | inl is ↦ rw is refl
  | inr is ↦ rw (is, is) refl
]
before_trimmed-again d (e ∷ es) same = rw same refl

pub trim_back-again : (ds : List ℕ) → trim_back (trim_back ds) ≡ trim_back ds
trim_back-again [] = refl
trim_back-again (d ∷ ds) = before_trimmed-again d (trim_back ds) (trim_back-again ds)

-- a last digit that is zero goes, and any other stays with all before it
pub trim_back-zero : (ds : List ℕ) → trim_back (ds ++ 48 ∷ []) ≡ trim_back ds
trim_back-zero [] = refl
trim_back-zero (d ∷ ds) = ap (before_trimmed d) (trim_back-zero ds)

pub trim_back-other : (ds : List ℕ) (e : ℕ) → (e == 48) ≡ false → trim_back (ds ++ e ∷ []) ≡ ds ++ e ∷ []
trim_back-other [] e other = rw other refl
trim_back-other (d ∷ []) e other = rw other refl
trim_back-other (d ∷ c ∷ ds) e other = ap (before_trimmed d) (trim_back-other (c ∷ ds) e other)

-- ---- the parts of what is spelled

pub whole_of-spelled : (w f : List ℕ) → AreDigits w → AreDigits f → trim_front w ≡ w → whole_of (spelled w f) ≡ w
unfolding whole_of
whole_of-spelled [] [] low high same = refl
whole_of-spelled (d ∷ w) [] low high same = rw (before_point-digits (d ∷ w) low, digits-same (d ∷ w) low) same
whole_of-spelled w (e ∷ f) low high same = rw (before_point-join w (e ∷ f) low, digits-same w low) same

pub fraction_of-spelled : (w f : List ℕ) → AreDigits w → AreDigits f → trim_back f ≡ f → fraction_of (spelled w f) ≡ f
unfolding fraction_of
fraction_of-spelled [] [] low high same = refl
fraction_of-spelled (d ∷ w) [] low high same = rw (after_point-digits (d ∷ w) low) refl
fraction_of-spelled w (e ∷ f) low high same = rw (after_point-join w (e ∷ f) low, digits-same (e ∷ f) high) same

pub AreDigits-whole_of : (text : List ℕ) → AreDigits (whole_of text)
unfolding whole_of
AreDigits-whole_of text = AreDigits-trim_front (digits (before_point text)) (AreDigits-digits (before_point text))

pub AreDigits-fraction_of : (text : List ℕ) → AreDigits (fraction_of text)
unfolding fraction_of
AreDigits-fraction_of text = AreDigits-trim_back (digits (after_point text)) (AreDigits-digits (after_point text))

pub trimmed-whole_of : (text : List ℕ) → trim_front (whole_of text) ≡ whole_of text
unfolding whole_of
trimmed-whole_of text = trim_front-again (digits (before_point text))

pub trimmed-fraction_of : (text : List ℕ) → trim_back (fraction_of text) ≡ fraction_of text
unfolding fraction_of
trimmed-fraction_of text = trim_back-again (digits (after_point text))

pub whole_of-canonical : (text : List ℕ) → whole_of (canonical text) ≡ whole_of text
unfolding canonical
whole_of-canonical text =
    whole_of-spelled (whole_of text) (fraction_of text) (AreDigits-whole_of text) (AreDigits-fraction_of text) (trimmed-whole_of text)

pub fraction_of-canonical : (text : List ℕ) → fraction_of (canonical text) ≡ fraction_of text
unfolding canonical
fraction_of-canonical text =
    fraction_of-spelled (whole_of text) (fraction_of text) (AreDigits-whole_of text) (AreDigits-fraction_of text) (trimmed-fraction_of text)

pub canonical-same : (a b : List ℕ) → whole_of a ≡ whole_of b → fraction_of a ≡ fraction_of b → canonical a ≡ canonical b
unfolding canonical
canonical-same a b whole fraction = rw (whole, fraction) refl

pub canonical-spelled : (w f : List ℕ) → AreDigits w → AreDigits f → trim_front w ≡ w → trim_back f ≡ f → canonical (spelled w f) ≡ spelled w f
unfolding canonical
canonical-spelled w f low high front back = rw (whole_of-spelled w f low high front, fraction_of-spelled w f low high back) refl

pub canonical-again : (text : List ℕ) → canonical (canonical text) ≡ canonical text
canonical-again text = canonical-same (canonical text) text (whole_of-canonical text) (fraction_of-canonical text)

-- ---- lengths

length-digits : (text : List ℕ) → length (digits text) ≤ length text
length-digits [] = lit≤ tt
length-digits (b ∷ bs) = elim (cases_Bool (is_ascii_digit b)) [
  | inl is ↦ rw is (omega (arith, length-digits bs))
  | inr is ↦ rw is (omega (arith, length-digits bs))
]

length-trim_front : (ds : List ℕ) → length (trim_front ds) ≤ length ds
length-trim_front [] = lit≤ tt
length-trim_front (d ∷ ds) = elim (cases_Bool (d == 48)) [
  | inl is ↦ rw is (omega (arith, length-trim_front ds))
  | inr is ↦ rw is (omega arith)
]

length-before_trimmed : (d : ℕ) (es : List ℕ) → length (before_trimmed d es) ≤ length es + 1
length-before_trimmed d [] = elim (cases_Bool (d == 48)) [
  | inl is ↦ rw is (omega arith)
  | inr is ↦ rw is (omega arith)
]
length-before_trimmed d (e ∷ es) = omega arith

length-trim_back : (ds : List ℕ) → length (trim_back ds) ≤ length ds
length-trim_back [] = lit≤ tt
length-trim_back (d ∷ ds) = omega (arith, length-before_trimmed d (trim_back ds), length-trim_back ds)

-- a text is what stands before its first point, perhaps with the point and what stands behind it
length-parts : (text : List ℕ) →
    (length (before_point text) + 1 + length (after_point text) ≡ length text) ⊎ ((after_point text ≡ []) × (length (before_point text) ≡ length text))
length-parts [] = inr (refl, refl)
length-parts (b ∷ bs) = elim (cases_Bool (b == 46)) [
  | inl is ↦ rw is (inl (omega arith))
  | inr is ↦ rw is (elim (length-parts bs) [
    | inl both ↦ inl (omega arith)
    | inr one ↦ inr (one.0, omega (arith, one.1))
  ])
]

length-whole_of : (text : List ℕ) → length (whole_of text) ≤ length (before_point text)
unfolding whole_of
length-whole_of text = omega (arith, length-trim_front (digits (before_point text)), length-digits (before_point text))

length-fraction_of : (text : List ℕ) → length (fraction_of text) ≤ length (after_point text)
unfolding fraction_of
length-fraction_of text = omega (arith, length-trim_back (digits (after_point text)), length-digits (after_point text))

spelled-short : (w f : List ℕ) (n : ℕ) → 0 < n → length w ≤ n → (0 < length f → length w + 1 + length f ≤ n) → length (spelled w f) ≤ n
spelled-short [] [] n some whole both = omega arith
spelled-short (d ∷ w) [] n some whole both = whole
spelled-short w (e ∷ f) n some whole both = rw (length-append w (46 ∷ e ∷ f)) (omega (arith, both (omega arith)))

pub length-canonical : (text : List ℕ) → 0 < length text → length (canonical text) ≤ length text
unfolding canonical
length-canonical text some =
    let whole : length (whole_of text) ≤ length (before_point text) = length-whole_of text in
    let fraction : length (fraction_of text) ≤ length (after_point text) = length-fraction_of text in
    elim (length-parts text) [
      | inl both ↦ spelled-short (whole_of text) (fraction_of text) (length text) some (omega arith) (λ h. omega arith)
      | inr one ↦
          let none : length (after_point text) ≡ 0 = ap length one.0 in
          spelled-short (whole_of text) (fraction_of text) (length text) some (omega (arith, one.1)) (λ h. absurd (omega arith))
    ]
