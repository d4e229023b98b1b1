-- An operation that is answered under a pass of its volume.
use Rattle.std.specs.Prelude.{◌≡◌, ◌≢◌, ◌⊎◌, ℕ, true, false, nat_lt, Result, Ok, Err}
use Rattle.fm_types.specs.declared.status.Status.{Status}
use Rattle.fm_types.specs.declared.status.Status.TheVariants.{NoVolume, Success}
use Rattle.fm_callback_data.specs.declared.request.Request.{Request}
use Rattle.fm_callback_data.specs.declared.request.Reply.{Reply}
use Rattle.fm_rundown.specs.declared.gate.RundownGate.{RundownGate}
use Rattle.fm_rundown.specs.declared.view.SeatView.{SeatView}
use Rattle.fm_rundown.specs.Seats.{volumes_of}
use Rattle.fm_rundown.specs.Views.{volume_of}
use Rattle.fm_rundown.specs.Calls.{Enters, Leaves}
use Rattle.fm_server.specs.Replies.{status_reply}

-- the seat holds as many passes of each volume as before
abbrev pub KeepsPasses : SeatView → SeatView → Type 0
KeepsPasses old new = (v : ℕ) → (volume_of v new).held ≡ (volume_of v old).held

-- what came of the operation once the gate was asked for a pass: with one, the reply is that of what answers, and the pass was given back; without one the
-- gate's refusal is the reply, and what answers is as it was
abbrev pub GuardsAfter : {S : Type 0} → (S → Request → Reply → S → Type 0) → ℕ → Result (Unit {0}) Status → S → SeatView → Request
    → Reply → SeatView → S → Type 0
GuardsAfter operates v (Ok got) old mid request said seat new = operates old request said new × (back : Result (Unit {0}) Status) × Leaves v mid back seat
GuardsAfter operates v (Err status) old mid request said seat new = (said ≡ status_reply status) × (new ≡ old) × (seat ≡ mid)

-- the gate was asked for a pass of the volume, which it gave or refused, and the operation was answered accordingly
abbrev pub Guards : {S : Type 0} → (S → Request → Reply → S → Type 0) → ℕ → SeatView → S → Request → Reply → SeatView → S → Type 0
Guards operates v seat_old old request said seat_new new =
    (entered : Result (Unit {0}) Status) × (mid : SeatView) × Enters v seat_old entered mid × GuardsAfter operates v entered old mid request said seat_new new

-- a guarded operation: what answers answered it under a pass, or the gate's refusal, which is no success, is the reply and what answers is as it was. A gate
-- without that volume says so
pub record Guarded {S : Type 0} (operates : S → Request → Reply → S → Type 0) (gate : RundownGate) (v : ℕ) (seat_old : SeatView)
    (old : S) (request : Request) (said : Reply) (seat_new : SeatView) (new : S) : Type 0 where
  pub says : ((status : Status) × (status ≢ Success) × (said ≡ status_reply status) × (new ≡ old)) ⊎ operates old request said new
  pub guards : nat_lt v (volumes_of gate) ≡ true → Guards operates v seat_old old request said seat_new new
  pub none : nat_lt v (volumes_of gate) ≡ false → (said ≡ status_reply NoVolume) × (new ≡ old)
