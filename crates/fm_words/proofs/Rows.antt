-- A list in which nothing is found.
use Rattle.std.proofs.Common.{◌≡◌, ◌≤◌, ℕ, Bool, cond, not, nat_lt, List, length, Some, None, arith}
use Rattle.std.proofs.lemmas.Bool.Decides.{nat_tests}
use Rattle.std.proofs.lemmas.Grind.{common_steps}
use Rattle.std.proofs.lemmas.List.Sums.{prefix_len-le-length}
use Rattle.std.specs.List.{position, position_or_len}

none_within : (n len : ℕ) → n ≤ len → cond (nat_lt n len) (Some n) None ≡ None → n ≡ len
none_within n len small h = grind (arith, nat_tests, common_steps)

-- nothing passes
pub none_passes : {X : Type 0} (p : X → Bool) (xs : List X) → position p xs ≡ None → position_or_len p xs ≡ length xs
none_passes p xs is = none_within (position_or_len p xs) (length xs) (prefix_len-le-length (λ x. not (p x)) xs) is
