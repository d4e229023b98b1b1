-- Which texts name an altitude, and the one text that each altitude is written as.
use Rattle.std.specs.Prelude.{◌≡◌, ◌≤◌, ◌<◌, ◌⊎◌, ℕ, cond, ◌==◌, List, [], ◌∷◌, ◌++◌, length}
use Rattle.std.specs.Char.{is_ascii_digit, IsAsciiDigit}
use Rattle.std.specs.List.{All, count_by, filter}

-- the bytes before the first point, and those after it
abbrev pub before_point : List ℕ → List ℕ
before_point [] = []
before_point (b ∷ bs) = cond (b == 46) [] (b ∷ before_point bs)

abbrev pub after_point : List ℕ → List ℕ
after_point [] = []
after_point (b ∷ bs) = cond (b == 46) bs (after_point bs)

-- the digits of a text, in their order
abbrev pub digits : List ℕ → List ℕ
digits text = filter is_ascii_digit text

-- digits without the zeros in front
abbrev pub trim_front : List ℕ → List ℕ
trim_front [] = []
trim_front (d ∷ ds) = cond (d == 48) (trim_front ds) (d ∷ ds)

-- digits without the zeros at the end
abbrev pub before_trimmed : ℕ → List ℕ → List ℕ
before_trimmed d [] = cond (d == 48) [] (d ∷ [])
before_trimmed d (e ∷ es) = d ∷ e ∷ es

abbrev pub trim_back : List ℕ → List ℕ
trim_back [] = []
trim_back (d ∷ ds) = before_trimmed d (trim_back ds)

-- the digits of the whole number and of the fraction, without the zeros that say nothing
unfoldable pub whole_of : List ℕ → List ℕ
whole_of text = trim_front (digits (before_point text))

unfoldable pub fraction_of : List ℕ → List ℕ
fraction_of text = trim_back (digits (after_point text))

-- the text of a whole number and a fraction: `0` for zero, and no point without a fraction
abbrev pub spelled : List ℕ → List ℕ → List ℕ
spelled [] [] = 48 ∷ []
spelled (d ∷ ds) [] = d ∷ ds
spelled whole (e ∷ es) = whole ++ 46 ∷ e ∷ es

-- the one text of the altitude that a text names
unfoldable pub canonical : List ℕ → List ℕ
canonical text = spelled (whole_of text) (fraction_of text)

abbrev pub IsAltitudeByte : ℕ → Type 0
IsAltitudeByte b = IsAsciiDigit b ⊎ (b ≡ 46)

-- 1 to 64 characters: digits, at least one, and at most one point
pub record IsAltitude (text : List ℕ) : Type 0 where
  pub few : length text ≤ 64
  pub characters : All IsAltitudeByte text
  pub points : count_by (λ b. b == 46) text ≤ 1
  pub some_digit : 0 < count_by is_ascii_digit text
