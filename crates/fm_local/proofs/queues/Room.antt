-- Whether a queue has room for one more.
use Rattle.fm_local.proofs.Words.{◌≡◌, ◌<◌, Bool, arith, false, ℕ, nat_tests}
use Rattle.std.specs.Prelude.{nat_le}

pub not_full : (room count : ℕ) (b : Bool) → b ≡ nat_le room count → b ≡ false → count < room
not_full room count b is not = grind (arith, nat_tests)
