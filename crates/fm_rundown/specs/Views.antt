-- What a seat knows, at its beginning and after a change of one volume.
use Rattle.std.specs.Prelude.{◌-◌, ℕ, false, slice_index_or, slice_set, replicate}
use Rattle.fm_rundown.specs.declared.view.VolumeView.{VolumeView}
use Rattle.fm_rundown.specs.declared.view.SeatView.{SeatView}

-- the gate has a word for each of so many volumes
abbrev pub most_volumes : ℕ
most_volumes = 8

-- no pass, and nothing seen or done
abbrev pub no_pass : VolumeView
no_pass = record { held = 0; tentative = 0; is_closing = false; is_drained = false; has_closed = false; looks = 0 }

-- a seat at its beginning, with so many others to be made of it
abbrev pub fresh_seat : ℕ → SeatView
fresh_seat to_make = record { volumes = replicate most_volumes no_pass; to_make = to_make }

-- what the seat knows of a volume
abbrev pub volume_of : ℕ → SeatView → VolumeView
volume_of v seat = slice_index_or seat.volumes v no_pass

-- the seat after a change of one volume
abbrev pub changed : ℕ → (VolumeView → VolumeView) → SeatView → SeatView
changed v change seat = record { volumes = slice_set seat.volumes v (change (volume_of v seat)); to_make = seat.to_make }

-- a seat after another was made of it
abbrev pub one_made : SeatView → SeatView
one_made seat = record { volumes = seat.volumes; to_make = seat.to_make - 1 }
