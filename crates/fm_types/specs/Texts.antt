-- Texts in arrays of fixed size.
use Rattle.std.specs.Prelude.{◌≡◌, ℕ, zero, suc, ◌-◌, List, [], ◌∷◌, ◌++◌, length, replicate, slice_index, drop}

-- a text with zeros behind it, up to a size
abbrev pub padded : ℕ → List ℕ → List ℕ
padded size text = text ++ replicate (size - length text) 0

-- a buffer holds a text of that length, and zeros behind it
pub record IsPadded (size : ℕ) (buffer text : List ℕ) (len : ℕ) : Type 0 where
  pub exact : length text ≡ len
  pub zeros : buffer ≡ padded size text

-- the first bytes of a text with zeros behind it
abbrev pub head_of : ℕ → List ℕ → List ℕ
head_of zero text = []
head_of (suc n) text = slice_index text 0 ∷ head_of n (drop 1 text)
