-- A refusal of the gate is no success.
use Rattle.std.proofs.Common.{◌≡◌, ◌≢◌, ℕ, Bool, true, false, Result, Ok, Err, MatchBool, nat_lt, refl, subst}
use Rattle.fm_types.specs.declared.status.Status.{Status}
use Rattle.fm_types.specs.declared.status.Status.TheVariants.{NoVolume, Success}
use Rattle.fm_rundown.specs.declared.gate.RundownGate.{RundownGate}
use Rattle.fm_rundown.specs.declared.seat.GateSeat.{GateSeat}
use Rattle.fm_rundown.specs.declared.view.SeatView.{SeatView}
use Rattle.fm_rundown.specs.Calls.{EnterRefused, Enters, OnVolume}
use Rattle.fm_rundown.specs.Seats.{view_of, volumes_of}

there_refused : (v : ℕ) (old new : SeatView) (status : Status) → EnterRefused v old status new → status ≢ Success
there_refused v old new status refused is = subst (λ (s : Status). EnterRefused v old s new) is refused

abbrev refusal : Status → Result (Unit {0}) Status
refusal status = Err status

by_volume : (is_there : Bool) (gate : RundownGate) (v : ℕ) (old new : GateSeat) (status : Status)
    → MatchBool is_there (Enters v (view_of old) (refusal status) (view_of new)) ((refusal status ≡ refusal NoVolume)
    × (view_of new ≡ view_of old)) → status ≢ Success
by_volume true gate v old new status entered is = there_refused v (view_of old) (view_of new) status entered is
by_volume false gate v old new status entered is = let wrong : refusal status ≡ refusal NoVolume = entered.0 in cc

pub enter_refused : (gate : RundownGate) (v : ℕ) (old new : GateSeat) (status : Status) → OnVolume Enters gate v old (refusal status) new → status ≢ Success
enter_refused gate v old new status entered = by_volume (nat_lt v (volumes_of gate)) gate v old new status entered
