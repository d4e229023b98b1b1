-- Which blank a manager's ledger is made of.
use Rattle.std.specs.Prelude.{◌≡◌, ℕ}

-- it is that ledger's own, in 49 parts: one for each worker's hand, and one that stays
abbrev pub IsBlankOf : {N : Type 0} → N → ℕ → N → ℕ → Type 0
IsBlankOf name parts own_name own_parts = (name ≡ own_name) × (parts ≡ own_parts) × (parts ≡ 49)
