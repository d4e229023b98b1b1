-- What a volume's word counts, over what all seats know of that volume.
use Rattle.std.specs.Prelude.{◌≡◌, ◌+◌, ◌*◌, ◌≤◌, ℕ, Bool, true, cond, List, All, sum_by}
use Rattle.std.specs.List.{list_any}
use Rattle.fm_rundown.specs.declared.view.VolumeView.{VolumeView}
use Rattle.fm_rundown.specs.Kinds.{most_passes}

-- the passes that a seat holds, and the one that it is taking back
abbrev pub passes_of : VolumeView → ℕ
passes_of p = p.held + p.tentative

-- some seat has closed the volume
abbrev pub is_closed : List VolumeView → Bool
is_closed ps = list_any (λ (p : VolumeView). p.has_closed) ps

-- some seat has seen it drained
abbrev pub is_seen_drained : List VolumeView → Bool
is_seen_drained ps = list_any (λ (p : VolumeView). p.is_drained) ps

-- no seat holds a pass
abbrev pub NobodyHolds : List VolumeView → Type 0
NobodyHolds ps = All (λ (p : VolumeView). p.held ≡ 0) ps

-- what a seat may know of a volume that some seat has closed, or that none has
abbrev pub Fits : Bool → VolumeView → Type 0
Fits is_closed p = (p.is_closing ≡ true → is_closed ≡ true) × (p.is_drained ≡ true → is_closed ≡ true) × (p.held ≤ most_passes) × (p.tentative ≤ 1)

-- the word is twice the passes, and one more where the volume is closed; closing and drained are seen only of a closed volume;
-- where it was seen drained, nobody holds a pass
abbrev pub IsCounted : ℕ → List VolumeView → Type 0
IsCounted word ps =
    (word ≡ 2 * sum_by passes_of ps + cond (is_closed ps) 1 0)
    × All (Fits (is_closed ps)) ps
    × (is_seen_drained ps ≡ true → NobodyHolds ps)
