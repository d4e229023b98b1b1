-- The numbers, ids and statuses that words stand for.
use Rattle.std.specs.Prelude.{◌≡◌, ◌⊎◌, ◌+◌, ◌*◌, ◌<◌, ◌≤◌, ◌==◌, ◌&&◌, ◌^◌, ℕ, Bool, true, false, cond, nat_lt, List, [], ◌∷◌, length, MatchOption, Option, Some, None}
use Rattle.std.specs.Char.{digit_value, is_ascii_digit}
use Rattle.std.specs.Str.{all_ascii_digits}
use Rattle.std.specs.Str.Parse.{digits_value}

-- decimal digits alone, at least one, of a number below 2^64
abbrev pub is_number : List ℕ → Bool
is_number word = nat_lt 0 (length word) && (all_ascii_digits word && nat_lt (digits_value 10 word) (2 ^ 64))

-- the number that a word is, leading zeros allowed
unfoldable pub number_read : List ℕ → Option ℕ
number_read word = cond (is_number word) (Some (digits_value 10 word)) None

-- an id is its letter, and a number behind it
abbrev pub id_read : ℕ → List ℕ → Option ℕ
id_read letter [] = None
id_read letter (b ∷ bs) = cond (b == letter) (number_read bs) None

-- the number with one digit more, as far as the byte is a digit and there is such a u64
abbrev pub WithDigit : ℕ → ℕ → Option ℕ → Type 0
WithDigit number byte result = MatchOption result
    ((is_ascii_digit byte ≡ false) ⊎ (2 ^ 64 ≤ number * 10 + digit_value byte))
    (λ more. (is_ascii_digit byte ≡ true) × (more ≡ number * 10 + digit_value byte) × (more < 2 ^ 64))
