-- A seat at a table of words.
use Rattle.std.specs.Prelude.{◌≡◌, []}
use Rattle.atomic_table.specs.Seated.{TableId}
use Rattle.atomic_table.specs.declared.shared.Seat.{Seat}
use Rattle.fm_rundown.specs.declared.view.SeatView.{SeatView}
use Rattle.fm_rundown.specs.Views.{most_volumes}

-- the table has a word for each volume and nothing else
abbrev pub IsGateTable : TableId → Type 0
IsGateTable table = (table.words ≡ most_volumes) × (table.slots ≡ 0)

-- the seat was made with that table
abbrev pub IsAt : TableId → Seat (Unit {0}) SeatView → Type 0
IsAt table seat = (seat.table_id ≡ table) × (seat.me.1 ≡ []) × IsGateTable table
