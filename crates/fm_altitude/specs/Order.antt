-- The number that a text of an altitude stands for, and the order of altitudes by it.
use Rattle.std.specs.Prelude.{◌≡◌, ◌+◌, ◌-◌, ◌*◌, ◌^◌, ℕ, List, [], ◌∷◌, length}
use Rattle.std.specs.Ordering.{nat_cmp}
use Rattle.std.specs.declared.cmp.Ordering.{Ordering}
use Rattle.std.specs.declared.cmp.Ordering.TheVariants.{Less, Equal}
use Rattle.fm_altitude.specs.Grammar.{digits, after_point}

-- the number that digits write
abbrev pub number : List ℕ → ℕ
number [] = 0
number (d ∷ ds) = (d - 48) * 10 ^ length ds + number ds

-- an altitude is `number_of` divided by ten as often as `places_of` says. Other bytes than digits and the first point count for nothing,
-- so that the order is one of all texts
unfoldable pub number_of : List ℕ → ℕ
number_of text = number (digits text)

unfoldable pub places_of : List ℕ → ℕ
places_of text = length (digits (after_point text))

-- altitudes compare as the decimal numbers that they are, of any precision
unfoldable pub altitude_cmp : List ℕ → List ℕ → Ordering
altitude_cmp a b = nat_cmp (number_of a * 10 ^ places_of b) (number_of b * 10 ^ places_of a)

abbrev pub IsSameAltitude : List ℕ → List ℕ → Type 0
IsSameAltitude a b = altitude_cmp a b ≡ Equal

abbrev pub IsBelow : List ℕ → List ℕ → Type 0
IsBelow a b = altitude_cmp a b ≡ Less
