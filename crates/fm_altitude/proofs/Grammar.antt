-- A text that is an altitude has digits before its point and behind it, and what is spelled of digits is an altitude.
use Rattle.std.proofs.Common.{◌≡◌, ◌+◌, ◌≤◌, ◌<◌, ◌==◌, ℕ, Bool, false, cond, List, [], ◌∷◌, ◌++◌, length, take, drop, refl, sym, ap, ◌∙◌, inl, inr, arith, lit≤, length-take, subst}
use Rattle.std.proofs.lemmas.Bool.{cases_Bool}
use Rattle.std.proofs.lemmas.Bool.Decides.{nat_tests}
use Rattle.std.proofs.lemmas.List.{take_all, take_at, drop_at, drop_all}
use Rattle.std.proofs.lemmas.List.Elements.{All-from_recursion, recursion_from_All}
use Rattle.std.proofs.lemmas.List.Sums.{sum_by-append, sum_by-cons}
use Rattle.std.specs.Char.{is_ascii_digit, IsAsciiDigit}
use Rattle.std.specs.List.{AllByRecursion, count_by}
use Rattle.fm_altitude.specs.Grammar.{IsAltitude, IsAltitudeByte, after_point, before_point, canonical, fraction_of, spelled, trim_back, trim_front, whole_of}
use Rattle.fm_altitude.specs.Numbers.{AreDigits, digits-same, test_from_digit}
use Rattle.fm_altitude.specs.Spelling.{AreDigits-fraction_of, AreDigits-whole_of, length-canonical, trim_back-other, trim_back-zero}

abbrev is_point : ℕ → Bool
is_point b = b == 46

count-cons : (p : ℕ → Bool) (b : ℕ) (bs : List ℕ) → count_by p (b ∷ bs) ≡ cond (p b) 1 0 + count_by p bs
count-cons p b bs = sum_by-cons (λ x. cond (p x) 1 0) b bs

digit_by_elimination : (b : ℕ) → IsAltitudeByte b → (b == 46) ≡ false → IsAsciiDigit b
digit_by_elimination b byte other = grind (arith, nat_tests)

-- ---- the parts of an altitude

digits_without_point : (text : List ℕ) → AllByRecursion IsAltitudeByte text → count_by is_point text ≡ 0 → AreDigits text
digits_without_point [] h none = tt
digits_without_point (b ∷ bs) h none =
    let counted = count-cons is_point b bs in
    (digit_by_elimination b h.0 (grind (arith, nat_tests)), digits_without_point bs h.1 (omega arith))

before_are_digits : (text : List ℕ) → AllByRecursion IsAltitudeByte text → AreDigits (before_point text)
before_are_digits [] h = tt
before_are_digits (b ∷ bs) h = elim (cases_Bool (b == 46)) [
  | inl is ↦ rw is tt
  | inr is ↦ rw is (digit_by_elimination b h.0 is, before_are_digits bs h.1)
]

after_are_digits : (text : List ℕ) → AllByRecursion IsAltitudeByte text → count_by is_point text ≤ 1 → AreDigits (after_point text)
after_are_digits [] h few = tt
after_are_digits (b ∷ bs) h few =
    let counted = count-cons is_point b bs in
    elim (cases_Bool (b == 46)) [
      | inl is ↦ rw is (digits_without_point bs h.1 (grind (arith, nat_tests)))
      | inr is ↦ rw is (after_are_digits bs h.1 (omega arith))
    ]

pub whole_of-read : (text : List ℕ) → IsAltitude text → trim_front (before_point text) ≡ whole_of text
unfolding whole_of
whole_of-read text h =
    ap trim_front (sym (digits-same (before_point text) (before_are_digits text (recursion_from_All IsAltitudeByte text h.characters))))

pub fraction_of-read : (text : List ℕ) → IsAltitude text → trim_back (after_point text) ≡ fraction_of text
unfolding fraction_of
fraction_of-read text h =
    ap trim_back (sym (digits-same (after_point text) (after_are_digits text (recursion_from_All IsAltitudeByte text h.characters) h.points)))

-- ---- what is spelled is an altitude

bytes_of_digits : (ds : List ℕ) → AreDigits ds → AllByRecursion IsAltitudeByte ds
bytes_of_digits [] h = tt
bytes_of_digits (d ∷ ds) h = (inl h.0, bytes_of_digits ds h.1)

bytes_of_join : (w f : List ℕ) → AreDigits w → AreDigits f → AllByRecursion IsAltitudeByte (w ++ 46 ∷ f)
bytes_of_join [] f low high = (inr refl, bytes_of_digits f high)
bytes_of_join (d ∷ w) f low high = (inl low.0, bytes_of_join w f low.1 high)

-- of digits, those are none, all of these
counts_of_digits : (ds : List ℕ) → AreDigits ds → (count_by is_point ds ≡ 0) × (count_by is_ascii_digit ds ≡ length ds)
counts_of_digits [] h = (refl, refl)
counts_of_digits (d ∷ ds) h =
    let no_point : is_point d ≡ false = grind (arith, nat_tests) in
    let rest = counts_of_digits ds h.1 in
    (count-cons is_point d ds ∙ rw (no_point, rest.0) refl, count-cons is_ascii_digit d ds ∙ rw (test_from_digit d h.0, rest.1) (omega arith))

counts_of_join : (p : ℕ → Bool) (w f : List ℕ) → count_by p (w ++ 46 ∷ f) ≡ count_by p w + (cond (p 46) 1 0 + count_by p f)
counts_of_join p w f = sum_by-append (λ x. cond (p x) 1 0) w (46 ∷ f) ∙ ap (λ n. count_by p w + n) (count-cons p 46 f)

pub IsAltitude-spelled : (w f : List ℕ) → AreDigits w → AreDigits f → length (spelled w f) ≤ 64 → IsAltitude (spelled w f)
IsAltitude-spelled [] [] low high few = record {
  few = few;
  characters = All-from_recursion IsAltitudeByte (48 ∷ []) (inl (lit≤ tt, lit≤ tt), tt);
  points = lit≤ tt;
  some_digit = lit≤ tt;
}
IsAltitude-spelled (d ∷ w) [] low high few = record {
  few = few;
  characters = All-from_recursion IsAltitudeByte (d ∷ w) (bytes_of_digits (d ∷ w) low);
  points = omega (arith, counts_of_digits (d ∷ w) low);
  some_digit = omega (arith, counts_of_digits (d ∷ w) low);
}
IsAltitude-spelled w (e ∷ f) low high few = record {
  few = few;
  characters = All-from_recursion IsAltitudeByte (w ++ 46 ∷ e ∷ f) (bytes_of_join w (e ∷ f) low high);
  points = omega (arith, counts_of_join is_point w (e ∷ f), counts_of_digits w low, counts_of_digits (e ∷ f) high);
  some_digit = omega (arith, counts_of_join is_ascii_digit w (e ∷ f), counts_of_digits (e ∷ f) high);
}

some_character : (text : List ℕ) → 0 < count_by is_ascii_digit text → 0 < length text
some_character [] h = h
some_character (b ∷ bs) h = omega arith

pub length-altitude : (text : List ℕ) → IsAltitude text → length (canonical text) ≤ length text
length-altitude text h = length-canonical text (some_character text h.some_digit)

pub IsAltitude-canonical : (text : List ℕ) → IsAltitude text → IsAltitude (canonical text)
unfolding canonical
IsAltitude-canonical text h =
    IsAltitude-spelled (whole_of text) (fraction_of text) (AreDigits-whole_of text) (AreDigits-fraction_of text)
    (let short : length (canonical text) ≤ length text = length-altitude text h in omega (arith, short, h.few))

-- ---- where the parts of a canonical text stand

take_spelled : (w f : List ℕ) → take (length w) (spelled w f) ≡ w
take_spelled [] [] = refl
take_spelled (d ∷ w) [] = take_all (length (d ∷ w)) (d ∷ w) (omega arith)
take_spelled w (e ∷ f) = take_at w (46 ∷ e ∷ f) (length w) refl

drop_spelled : (w f : List ℕ) → drop 1 (drop (length w) (spelled w f)) ≡ f
drop_spelled [] [] = refl
drop_spelled (d ∷ w) [] = rw (drop_all (length (d ∷ w)) (d ∷ w) (omega arith)) refl
drop_spelled w (e ∷ f) = rw (drop_at w (46 ∷ e ∷ f) (length w) refl) refl

pub take_whole : (text : List ℕ) → canonical text ≡ text → take (length (whole_of text)) text ≡ whole_of text
unfolding canonical
take_whole text own =
    subst (λ (spelling : List ℕ). take (length (whole_of text)) spelling ≡ whole_of text) own (take_spelled (whole_of text) (fraction_of text))

pub whole_within : (text : List ℕ) → canonical text ≡ text → length (whole_of text) ≤ length text
whole_within text own = omega (arith, length-take (length (whole_of text)) text, ap length (take_whole text own))

pub behind_whole : (text : List ℕ) → canonical text ≡ text → drop 1 (drop (length (whole_of text)) text) ≡ fraction_of text
unfolding canonical
behind_whole text own =
    subst (λ (spelling : List ℕ). drop 1 (drop (length (whole_of text)) spelling) ≡ fraction_of text) own (drop_spelled (whole_of text) (fraction_of text))

pub none_behind : (behind fraction : List ℕ) → length behind < 1 → drop 1 behind ≡ fraction → behind ≡ fraction
none_behind [] fraction empty same = same
none_behind (b ∷ bs) fraction some same = absurd (omega arith)

-- ---- the last digit

pub back_zero : (all rest : List ℕ) (last : ℕ) → all ≡ rest ++ last ∷ [] → last ≡ 48 → trim_back rest ≡ trim_back all
back_zero all rest last whole is = rw (whole, is) (sym (trim_back-zero rest))

pub back_other : (all rest : List ℕ) (last : ℕ) → all ≡ rest ++ last ∷ [] → (last ≡ 48 → ⊥) → all ≡ trim_back all
back_other all rest last whole other =
    let test : (last == 48) ≡ false = grind (arith, nat_tests) in
    rw whole (sym (trim_back-other rest last test))
