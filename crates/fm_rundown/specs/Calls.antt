-- The calls: what each answers, and what the seat knows after it.
use Rattle.std.specs.Prelude.{◌≡◌, ◌==◌, ◌||◌, ◌<◌, ◌≤◌, ℕ, false, not, nat_lt, List, [], ◌∷◌, length, sum_by, Option, Some, None, Result, Err, IfErr, MatchBool, MatchResult, Vec}
use Rattle.std.specs.Global.{Global}
use Rattle.fm_types.specs.Refusals.{first_of}
use Rattle.fm_types.specs.declared.status.Status.{Status}
use Rattle.fm_types.specs.declared.status.Status.TheVariants.{NoMemory, NoVolume, NotHeld, TooMany, BadRequest, Dismounting, Busy}
use Rattle.fm_rundown.specs.declared.view.SeatView.{SeatView}
use Rattle.fm_rundown.specs.declared.seat.GateSeat.{GateSeat}
use Rattle.fm_rundown.specs.declared.gate.RundownGate.{RundownGate}
use Rattle.fm_rundown.specs.declared.look.Look.{Look}
use Rattle.fm_rundown.specs.declared.look.Look.TheVariants.{Open, Closing, Drained}
use Rattle.fm_rundown.specs.Views.{most_volumes, volume_of, changed}
use Rattle.fm_rundown.specs.Rule.{most_seats}
use Rattle.fm_rundown.specs.Seats.{view_of, volumes_of, seats_of, passes_held}
use Rattle.fm_rundown.specs.Kinds.{gained, lost, saw_closing, saw_drained, closed, took_look, most_passes}

-- a call on a volume: refused with 7, and nothing changed, exactly where the gate hasn't the volume; else what the call says of the seat
abbrev pub OnVolume : {T : Type 0} → (ℕ → SeatView → Result T Status → SeatView → Type 0) → RundownGate → ℕ → GateSeat → Result T Status → GateSeat
    → Type 0
OnVolume Call gate v old result new =
    MatchBool (nat_lt v (volumes_of gate)) (Call v (view_of old) result (view_of new)) ((result ≡ Err NoVolume) × (view_of new ≡ view_of old))

-- a volume that the seat hasn't seen closing
abbrev pub IsUnseen : ℕ → SeatView → Type 0
IsUnseen v seat = (volume_of v seat).is_closing ≡ false

-- `enter` is refused with 33 where it found the volume closing, as it does where the seat has seen that before, and with 29 where the seat has
-- all its passes
abbrev pub EnterRefused : ℕ → SeatView → Status → SeatView → Type 0
EnterRefused v old Dismounting new = new ≡ changed v saw_closing old
EnterRefused v old TooMany new = IsUnseen v old × (most_passes ≤ (volume_of v old).held) × (new ≡ old)
EnterRefused v old status new = ⊥

-- `enter`: a pass more
abbrev pub Enters : ℕ → SeatView → Result (Unit {0}) Status → SeatView → Type 0
Enters v old result new =
    MatchResult result (λ _. IsUnseen v old × ((volume_of v old).held < most_passes) × (new ≡ changed v gained old))
    (λ status. EnterRefused v old status new)

-- `leave`: a pass less; refused with 25 where the seat holds none
abbrev pub Leaves : ℕ → SeatView → Result (Unit {0}) Status → SeatView → Type 0
Leaves v old result new =
    MatchResult result (λ _. (0 < (volume_of v old).held) × (new ≡ changed v lost old))
    (λ status. (status ≡ NotHeld) × ((volume_of v old).held ≡ 0) × (new ≡ old))

-- `close`: the seat has closed the volume
abbrev pub Closes : ℕ → SeatView → Result (Unit {0}) Status → SeatView → Type 0
Closes v old result new = MatchResult result (λ _. new ≡ changed v closed old) (λ _. ⊥)

-- `look`: whatever it answers, it has taken one look; what it answers is what the seat has then seen; a volume that the seat has seen closing isn't
-- open, and of a drained one, which is named, it holds no pass
abbrev pub Sees : ℕ → SeatView → Look → SeatView → Type 0
Sees v old Open new = IsUnseen v old × (new ≡ changed v took_look old)
Sees v old Closing new = new ≡ changed v (λ p. saw_closing (took_look p)) old
Sees v old (Drained seen) new = (seen.volume.0 ≡ v) × ((volume_of v old).held ≡ 0) × (new ≡ changed v (λ p. saw_drained (took_look p)) old)

abbrev pub Looks : ℕ → SeatView → Result Look Status → SeatView → Type 0
Looks v old result new = MatchResult result (λ look. Sees v old look new) (λ _. ⊥)

-- a gate isn't made: with 32 exactly where a number is 0 or too high, else only for want of memory
abbrev pub NewRefused : {T : Type 0} → ℕ → ℕ → Result T Status → Type 0
NewRefused volumes seats result =
    MatchBool (volumes == 0 || (seats == 0 || (nat_lt most_volumes volumes || nat_lt most_seats seats))) (result ≡ Err BadRequest)
    (IfErr result (λ status. status ≡ NoMemory))

-- why the gate can't end with these seats: 32 where not all are there, 34 where they hold passes
abbrev pub end_refusal : RundownGate → List GateSeat → Option Status
end_refusal gate seats =
    first_of (
    (not (length seats == seats_of gate), BadRequest)
    ∷ (nat_lt 0 (sum_by passes_held seats), Busy (sum_by passes_held seats))
    ∷ []
    )

-- `end`: the gate is gone with its seats, or all are handed back as they were
abbrev pub Ends : RundownGate → List GateSeat → Result (Unit {0}) (RundownGate × Vec GateSeat Global × Status) → Type 0
Ends gate seats result =
    MatchResult result (λ _. end_refusal gate seats ≡ None)
    (λ back. (end_refusal gate seats ≡ Some back.2) × (back.0 ≡ gate) × (back.1.items ≡ seats))
