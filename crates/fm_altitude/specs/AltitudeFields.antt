-- The fields of an altitude, from its text.
use Rattle.std.proofs.Common.{◌≡◌, length, take, sym}
use Rattle.fm_altitude.specs.Grammar.{whole_of}
use Rattle.fm_altitude.specs.Kept.{IsKept}
use Rattle.fm_types.specs.Texts.{padded}
use Rattle.fm_altitude.specs.declared.altitude.Altitude.TheInside.{Inside}

pub altitude_fields_back : (a : Inside) → IsKept a.buffer a.len a.whole →
    record { buffer = padded 64 (take a.len a.buffer); len = length (take a.len a.buffer); whole = length (whole_of (take a.len a.buffer)) } ≡ a
altitude_fields_back a h = λ i. record { buffer = sym h.zeros i; len = h.exact i; whole = h.front i }
