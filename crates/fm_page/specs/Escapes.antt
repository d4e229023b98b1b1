-- Texts that stand in a picture, and JSON that stands in a page.
use Rattle.std.specs.Prelude.{◌≡◌, ℕ, nat_lt, nat_eq, ◌&&◌, ◌+◌, ◌/◌, ◌%◌, ◌++◌, Bool, true, not, cond, List, [], ◌∷◌}

-- from the space to ~, but for < (60), > (62), & (38) and " (34)
abbrev pub is_safe : ℕ → Bool
is_safe b = nat_lt 31 b && nat_lt b 127 && not (nat_eq b 60) && not (nat_eq b 62) && not (nat_eq b 38) && not (nat_eq b 34)

abbrev pub IsSafe : ℕ → Type 0
IsSafe b = is_safe b ≡ true

-- a digit of four bits
abbrev pub digit : ℕ → ℕ
digit n = cond (nat_lt n 10) (48 + n) (87 + n)

-- a byte as it is, or as \x and two digits
abbrev pub spelled : ℕ → List ℕ
spelled b = cond (is_safe b) (b ∷ []) (92 ∷ 120 ∷ digit (b / 16 % 16) ∷ digit (b % 16) ∷ [])

abbrev pub escaped : List ℕ → List ℕ
escaped [] = []
escaped (b ∷ bs) = spelled b ++ escaped bs

-- all but < (60), > (62) and & (38)
abbrev pub is_inert : ℕ → Bool
is_inert b = not (nat_eq b 60) && not (nat_eq b 62) && not (nat_eq b 38)

abbrev pub IsInert : ℕ → Type 0
IsInert b = is_inert b ≡ true

-- a byte as it is, or as \u00 and two digits
abbrev pub spelled_inert : ℕ → List ℕ
spelled_inert b = cond (is_inert b) (b ∷ []) (92 ∷ 117 ∷ 48 ∷ 48 ∷ digit (b / 16 % 16) ∷ digit (b % 16) ∷ [])

abbrev pub inert : List ℕ → List ℕ
inert [] = []
inert (b ∷ bs) = spelled_inert b ++ inert bs
