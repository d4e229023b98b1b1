-- Which words ask how a program is used.
use Rattle.std.specs.Prelude.{ℕ, Bool, false, List, [], ◌∷◌, codes, bytes_eq, ◌||◌}

abbrev pub asks_help : List ℕ → Bool
asks_help word = bytes_eq word (codes "--help") || bytes_eq word (codes "-h")

-- one word, and it does
abbrev pub asks_usage : List (List ℕ) → Bool
asks_usage (word ∷ []) = asks_help word
asks_usage [] = false
asks_usage (_ ∷ _ ∷ _) = false
