-- What a clause says of a gate and of its seats.
use Rattle.std.specs.Prelude.{ℕ, sum_by}
use Rattle.fm_rundown.specs.declared.view.VolumeView.{VolumeView}
use Rattle.fm_rundown.specs.declared.view.SeatView.{SeatView}
use Rattle.fm_rundown.specs.declared.seat.GateSeat.{GateSeat}
use Rattle.fm_rundown.specs.declared.gate.RundownGate.{RundownGate}
use Rattle.fm_rundown.specs.Tables.{IsAt}

-- what the seat knows
abbrev pub view_of : GateSeat → SeatView
view_of seat = seat.seat.me.0

-- the seat was made with this gate
abbrev pub IsSeatOf : RundownGate → GateSeat → Type 0
IsSeatOf gate seat = IsAt gate.table.shared.table_id seat.seat

-- how many volumes and how many seats the gate has
abbrev pub volumes_of : RundownGate → ℕ
volumes_of gate = gate.volumes

abbrev pub seats_of : RundownGate → ℕ
seats_of gate = gate.seats

-- the passes that a seat holds, of all volumes
abbrev pub passes_held : GateSeat → ℕ
passes_held seat = sum_by (λ (p : VolumeView). p.held) (view_of seat).volumes
