-- The gate's rule.
use Rattle.std.specs.Prelude.{◌≡◌, ◌+◌, ◌≤◌, ◌<◌, ℕ, true, List, All, length, map, sum_by, slice_index}
use Rattle.atomic_table.specs.Table.{State, Me}
use Rattle.fm_rundown.specs.declared.view.VolumeView.{VolumeView}
use Rattle.fm_rundown.specs.declared.view.SeatView.{SeatView}
use Rattle.fm_rundown.specs.Views.{most_volumes, volume_of, changed}
use Rattle.fm_rundown.specs.Kinds.{Kind, is_closing_word}
use Rattle.fm_rundown.specs.Counts.{IsCounted}

-- a gate has at most so many seats
abbrev pub most_seats : ℕ
most_seats = 65536

-- the gate as plain data: its words, and what each seat knows
abbrev pub GateState : Type 0
GateState = State (Unit {0}) SeatView

-- what all seats know of a volume
abbrev pub column : ℕ → List SeatView → List VolumeView
column v seats = map (volume_of v) seats

-- THE RULE: the seats made and those to be made are the gate's, and each volume's word counts what all seats know of that volume
pub record IsKept (seats : ℕ) (s : GateState) : Type 0 where
  pub words : length s.words ≡ most_volumes
  pub few : seats ≤ most_seats
  pub all_seats : length s.views + sum_by (λ (seat : SeatView). seat.to_make) s.views ≡ seats
  pub volumes : All (λ (seat : SeatView). length seat.volumes ≡ most_volumes) s.views
  pub counted : (v : ℕ) → v < most_volumes → IsCounted (slice_index s.words v) (column v s.views)

-- what a step tells the seat that makes it: it knows by the word found what its kind says; a volume seen closing before was found closing;
-- and where the word was 1 it holds no pass
abbrev pub Tells : Kind → ℕ → Me (Unit {0}) SeatView → ℕ → Me (Unit {0}) SeatView → Type 0
Tells kind v before found after =
    (after ≡ (changed v (kind.seen found) before.0, before.1))
    × ((volume_of v before.0).is_closing ≡ true → is_closing_word found ≡ true)
    × (found ≡ 1 → (volume_of v before.0).held ≡ 0)
