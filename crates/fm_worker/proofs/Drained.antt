-- A volume that a look at the gate found drained.
use Rattle.std.proofs.Common.{◌≡◌, ◌∙◌, ◌<◌, ℕ, Bool, true, false, Ok, Err, MatchBool, nat_lt, length, refl, ap, arith}
use Rattle.std.proofs.lemmas.Bool.{ltb-true}
use Rattle.fm_types.specs.declared.status.Status.TheVariants.{NoVolume}
use Rattle.fm_rundown.specs.declared.gate.RundownGate.{RundownGate}
use Rattle.fm_rundown.specs.declared.look.Look.TheVariants.{Drained}
use Rattle.fm_rundown.specs.declared.look.Seen.{Seen}
use Rattle.fm_rundown.specs.declared.seat.GateSeat.{GateSeat}
use Rattle.fm_rundown.specs.Calls.{Looks, OnVolume}
use Rattle.fm_rundown.specs.Kinds.{saw_drained, took_look}
use Rattle.fm_rundown.specs.Seats.{view_of, volumes_of}
use Rattle.fm_rundown.specs.Views.{volume_of}
use Rattle.fm_rundown.proofs.Changed.{volume_changed}

by_volume : (is_there : Bool) (gate : RundownGate) (v : ℕ) (look : Seen) (old new : GateSeat) → nat_lt v (volumes_of gate) ≡ is_there
    → MatchBool is_there (Looks v (view_of old) (Ok (Drained look)) (view_of new)) ((Ok (Drained look) ≡ Err NoVolume) × (view_of new ≡ view_of old))
    → (volume_of v (view_of new)).is_drained ≡ true
by_volume true gate v look old new there seen =
    let below : v < volumes_of gate = ltb-true v (volumes_of gate) there in
    let within : v < length (view_of old).volumes = omega (arith, below, gate.few.0, old.at_rest.0) in
    ap (λ seat. (volume_of v seat).is_drained) seen.2 ∙ ap (λ p. p.is_drained) (volume_changed v (λ p. saw_drained (took_look p)) (view_of old) within)
by_volume false gate v look old new there seen = let wrong = seen.0 in cc

pub drained_seen : (gate : RundownGate) (v : ℕ) (look : Seen) (old new : GateSeat) → OnVolume Looks gate v old (Ok (Drained look)) new
    → (volume_of v (view_of new)).is_drained ≡ true
drained_seen gate v look old new on = by_volume (nat_lt v (volumes_of gate)) gate v look old new refl on
