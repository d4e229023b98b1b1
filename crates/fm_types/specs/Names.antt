-- The grammar of names.
use Rattle.std.specs.Prelude.{◌≡◌, ◌⊎◌, ℕ, ◌<◌, ◌≤◌, List, length, All}
use Rattle.std.specs.Char.{IsAsciiAlphanumeric}

-- a letter, a digit, `_` or `-`
abbrev pub IsNameByte : ℕ → Type 0
IsNameByte byte = IsAsciiAlphanumeric byte ⊎ ((byte ≡ 95) ⊎ (byte ≡ 45))

-- the name of a filter, a volume or an instance
pub record IsName (text : List ℕ) : Type 0 where
  pub some : 0 < length text
  pub few : length text ≤ 32
  pub characters : All IsNameByte text
