-- How long the spelling of bytes is.
use Rattle.std.proofs.Common.{◌≡◌, ◌*◌, ℕ, List, [], ◌∷◌, arith, length, refl}
use Rattle.fm_words.specs.Hexadecimal.{hex_pairs}

-- each byte has two digits
pub pairs_length : (bytes : List ℕ) → length (hex_pairs bytes) ≡ length bytes * 2
pairs_length [] = refl
pairs_length (b ∷ bytes) = let rest = pairs_length bytes in omega (arith, rest)
