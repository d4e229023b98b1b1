-- How long the spellings of numbers are.
use Rattle.std.proofs.Common.{◌≡◌, ◌≤◌, ◌<◌, ◌+◌, ◌/◌, ◌%◌, ◌++◌, ◌∙◌, ℕ, List, [], ◌∷◌, ap, append_assoc, arith, decimal, length}
use Rattle.std.proofs.lemmas.Fmt.{decimal_digit, decimal_step}

-- a number below 10 has one digit
pub one_long : (n : ℕ) → n < 10 → length (decimal n) ≡ 1
one_long n below = ap length (decimal_digit n below)

-- one of 10 to 99 has two
pub two_long : (n : ℕ) → 10 ≤ n → n < 100 → length (decimal n) ≡ 2
two_long n above below =
    ap length (decimal_step n above (omega arith) ∙ ap (λ (digits : List ℕ). digits ++ (48 + n % 10) ∷ []) (decimal_digit (n / 10) (omega arith)))

-- a word with its line feed, at once
pub fed_at_once : (before word : List ℕ) → (before ++ word) ++ 10 ∷ [] ≡ before ++ (word ++ 10 ∷ [])
fed_at_once before word = append_assoc before word (10 ∷ [])
