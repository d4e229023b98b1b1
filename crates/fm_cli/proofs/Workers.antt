-- How the number of workers is read.
use Rattle.std.proofs.Common.{◌≡◌, ◌≤◌, ◌<◌, ℕ, List, Option, Some, None, refl, arith, ◌∙◌}
use Rattle.std.specs.Option.{MatchOption}
use Rattle.std.specs.Str.Parse.{IsNumeral, digits_value, without_leading_plus}
use Rattle.fm_cli.specs.Fronts.{ReadsWorkers}

abbrev IsByte : List ℕ → Type 0
IsByte text = IsNumeral 10 (without_leading_plus text) × (digits_value 10 (without_leading_plus text) < 256)

-- a byte was read: it is the number of workers, if there may be so many
pub from_byte : (o : Option (List ℕ)) (n : ℕ) (r : Option ℕ) → (o ≡ None → Some n ≡ None)
    → ((t : List ℕ) → o ≡ Some t → IsByte t × (n ≡ digits_value 10 (without_leading_plus t)))
    → MatchOption r ((1 ≤ n) × (n ≤ 16) → ⊥) (λ it. (it ≡ n) × (1 ≤ n) × (n ≤ 16)) → ReadsWorkers o r
from_byte None n r none value range = let bad : Some n ≡ None = none refl in absurd (cc)
from_byte (Some t) n (Some it) none value range =
    let v = value t refl in (v.0.0, range.0 ∙ v.1, omega (arith, range.0, range.1), omega (arith, range.0, range.2))
from_byte (Some t) n None none value range =
    let v = value t refl in λ m is. range (omega (arith, is.1, is.2, v.1), omega (arith, is.1, is.3, v.1))

-- none was read
pub no_byte : (o : Option (List ℕ)) → ((t : List ℕ) → o ≡ Some t → IsByte t → ⊥) → ReadsWorkers o None
no_byte None value = tt
no_byte (Some t) value = λ m is. value t refl (is.0, omega (arith, is.1, is.3))
