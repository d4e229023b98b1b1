-- Which of some altitudes is lower.
use Rattle.std.proofs.Common.{◌≡◌, ℕ, true, false, List, refl, ap}
use Rattle.std.specs.Ordering.{is_lt, is_eq, ordering_reverse}
use Rattle.std.specs.declared.cmp.Ordering.{Ordering}
use Rattle.std.specs.declared.cmp.Ordering.TheVariants.{Less, Equal, Greater}
use Rattle.fm_altitude.specs.Order.{altitude_cmp}
use Rattle.fm_altitude.specs.Total.{altitude_total}
use Rattle.fm_stack.proofs.Words.{is_lower, same_altitude}

less : (o : Ordering) → is_lt o ≡ true → o ≡ Less
less Less is = refl
less Equal is = cc
less Greater is = cc

not_less : (o : Ordering) → o ≡ ordering_reverse o → is_lt o ≡ false
not_less Less is = cc
not_less Equal is = refl
not_less Greater is = refl

other_way : (o r : Ordering) → o ≡ ordering_reverse r → r ≡ Less → is_lt o ≡ false
other_way Less r is below = cc
other_way o r is below = refl

-- an altitude isn't lower than itself
pub not_below_itself : (a : List ℕ) → is_lower a a ≡ false
not_below_itself a = not_less (altitude_cmp a a) (altitude_total.antisymm a a)

-- what is lower than a lower one is lower
pub lower_after : (a b c : List ℕ) → is_lower a b ≡ true → is_lower b c ≡ true → is_lower a c ≡ true
lower_after a b c first second = ap is_lt (altitude_total.trans a b c (less (altitude_cmp a b) first) (less (altitude_cmp b c) second))

-- of two, one at most is lower
pub not_above : (a b : List ℕ) → is_lower a b ≡ true → is_lower b a ≡ false
not_above a b below = other_way (altitude_cmp b a) (altitude_cmp a b) (altitude_total.antisymm b a) (less (altitude_cmp a b) below)

-- and, where they aren't the same, one is
pub lower_or_above : (a b : List ℕ) → same_altitude a b ≡ false → is_lower a b ≡ false → is_lower b a ≡ true
lower_or_above a b apart level = above (altitude_cmp a b) (altitude_cmp b a) (altitude_total.antisymm b a) apart level
  where
    above : (o r : Ordering) → r ≡ ordering_reverse o → is_eq o ≡ false → is_lt o ≡ false → is_lt r ≡ true
    above Less r is apart level = cc
    above Equal r is apart level = cc
    above Greater r is apart level = ap is_lt is
