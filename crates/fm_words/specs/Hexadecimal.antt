-- How bytes are spelled: lower-case hexadecimal, and `-` for none.
use Rattle.std.specs.Prelude.{◌≡◌, ◌+◌, ◌/◌, ◌%◌, ◌<◌, ℕ, cond, nat_lt, List, [], ◌∷◌}
use Rattle.std.specs.List.{All, flat_map}

abbrev pub hex_digit : ℕ → ℕ
hex_digit n = cond (nat_lt n 10) (48 + n) (87 + n)

abbrev pub hex_pair : ℕ → List ℕ
hex_pair b = hex_digit (b / 16) ∷ hex_digit (b % 16) ∷ []

abbrev pub hex_pairs : List ℕ → List ℕ
hex_pairs bytes = flat_map hex_pair bytes

abbrev pub hex_of : List ℕ → List ℕ
hex_of [] = 45 ∷ []
hex_of (b ∷ bs) = hex_pairs (b ∷ bs)

-- no bytes have that spelling
abbrev pub IsNoPairs : List ℕ → Type 0
IsNoPairs word = (bytes : List ℕ) → All (λ b. b < 256) bytes → hex_pairs bytes ≡ word → ⊥

abbrev pub IsNoHexadecimal : List ℕ → Type 0
IsNoHexadecimal word = (bytes : List ℕ) → All (λ b. b < 256) bytes → hex_of bytes ≡ word → ⊥
