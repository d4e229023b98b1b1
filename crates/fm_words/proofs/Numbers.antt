-- A word of digits, as it is read digit by digit.
use Rattle.std.proofs.Common.{◌≡◌, ◌<◌, ◌≤◌, ◌+◌, ◌*◌, ◌^◌, ℕ, true, false, nat_lt, List, [], ◌∷◌, length, take, get_or, Some, None, refl, sym, ap, ◌∙◌, inl, inr, zero, suc, ◌⊎◌, arith}
use Rattle.std.proofs.Math.Bool.{and-false}
use Rattle.std.proofs.lemmas.Bool.{cases_Bool, lt-ltb}
use Rattle.std.proofs.lemmas.Bool.Decides.{nat_tests}
use Rattle.std.proofs.lemmas.Int.Digits.{digits_value_more}
use Rattle.std.proofs.lemmas.List.Folds.{list_all_more}
use Rattle.std.proofs.lemmas.Str.Parse.{digits_value-take-le}
use Rattle.std.specs.Char.{digit_value, is_ascii_digit}
use Rattle.std.specs.List.{list_all}
use Rattle.std.specs.Str.{all_ascii_digits}
use Rattle.std.specs.Str.Parse.{digits_value}
use Rattle.fm_words.specs.Numbers.{number_read}

list_all-digits : (text : List ℕ) → list_all is_ascii_digit text ≡ all_ascii_digits text
list_all-digits [] = refl
list_all-digits (b ∷ bs) = rw (list_all-digits bs) refl

pub value_more : (word : List ℕ) (i n more : ℕ) → i < length word → n ≡ digits_value 10 (take i word) → more ≡ n * 10 + digit_value (get_or word i 0)
    → more ≡ digits_value 10 (take (i + 1) word)
value_more word i n more inside is next = omega (arith, is, next, digits_value_more 10 word i inside)

pub digits_more : (word : List ℕ) (i : ℕ) → i < length word → list_all is_ascii_digit (take i word) ≡ true → is_ascii_digit (get_or word i 0) ≡ true
    → list_all is_ascii_digit (take (i + 1) word) ≡ true
digits_more word i inside before digit = rw (list_all_more is_ascii_digit word i 0 inside, before, digit) refl

no_digits : (word : List ℕ) → all_ascii_digits word ≡ false → None ≡ number_read word
unfolding number_read
no_digits word h = elim (cases_Bool (nat_lt 0 (length word))) [ inl some ↦ rw (some, h) refl | inr none ↦ rw none refl ]

too_large : (word : List ℕ) → 2 ^ 64 ≤ digits_value 10 word → None ≡ number_read word
unfolding number_read
too_large word large =
    let over : nat_lt (digits_value 10 word) (2 ^ 64) ≡ false = grind (arith, nat_tests) in
    elim (cases_Bool (nat_lt 0 (length word))) [
      | inl some ↦ elim (cases_Bool (all_ascii_digits word)) [ inl all ↦ rw (some, all, over) refl | inr other ↦ rw (some, other) refl ]
      | inr none ↦ rw none refl
    ]

not_at : (word : List ℕ) (i : ℕ) → i < length word → is_ascii_digit (get_or word i 0) ≡ false → all_ascii_digits word ≡ false
not_at [] i inside other = absurd (omega arith)
not_at (b ∷ bs) zero inside other = rw other refl
not_at (b ∷ bs) (suc i) inside other = rw (not_at bs i (omega arith) other) (and-false (is_ascii_digit b))

-- what ends the reading
pub none_at : (word : List ℕ) (i n : ℕ) → i < length word → n ≡ digits_value 10 (take i word)
    → (is_ascii_digit (get_or word i 0) ≡ false) ⊎ (2 ^ 64 ≤ n * 10 + digit_value (get_or word i 0)) → None ≡ number_read word
none_at word i n inside is (inl other) = no_digits word (not_at word i inside other)
none_at word i n inside is (inr large) =
    too_large word (omega (arith, large, is, digits_value_more 10 word i inside, digits_value-take-le 10 word (i + 1) (omega arith)))

pub number_whole : (word : List ℕ) (n : ℕ) → 0 < length word → n < 2 ^ 64 → n ≡ digits_value 10 word → list_all is_ascii_digit word ≡ true
    → Some n ≡ number_read word
unfolding number_read
number_whole word n some fits is all =
    let long : nat_lt 0 (length word) ≡ true = lt-ltb 0 (length word) some in
    let small : nat_lt (digits_value 10 word) (2 ^ 64) ≡ true = lt-ltb (digits_value 10 word) (2 ^ 64) (rw (sym is) fits) in
    rw (long, sym (list_all-digits word) ∙ all, small) (ap (λ (m : ℕ). Some m) is)
