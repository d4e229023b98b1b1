-- A seat between two calls.
use Rattle.std.specs.Prelude.{◌≡◌, ◌<◌, ℕ, List, length, slice_index}
use Rattle.fm_rundown.specs.declared.view.SeatView.{SeatView}
use Rattle.fm_rundown.specs.Views.{most_volumes, volume_of}

-- what the seat counts is what it holds, and it is taking nothing back
abbrev pub IsAtRest : List ℕ → SeatView → Type 0
IsAtRest held seat =
    (length seat.volumes ≡ most_volumes)
    × ((v : ℕ) → v < most_volumes → ((volume_of v seat).held ≡ slice_index held v) × ((volume_of v seat).tentative ≡ 0))
