-- What a call promises of its value.
use Rattle.std.proofs.Common.{◌≡◌, Ok, Result, subst}
use Rattle.std.specs.Prelude.{IfOk}

pub of_value : {T E : Type 0} (P : T → Type 0) (result : Result T E) (value : T) → result ≡ Ok value → IfOk result P → P value
of_value P result value is holds = subst (λ r. IfOk r P) is holds
