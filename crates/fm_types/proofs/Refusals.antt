-- What is known where a list of tests refuses nothing.
use Rattle.std.proofs.Common.{◌≡◌, Bool, true, false, cond, List, [], ◌∷◌, Option, Some, None, refl, sym}
use Rattle.std.proofs.lemmas.Option.{none-some}
use Rattle.fm_types.specs.declared.status.Status.{Status}
use Rattle.fm_types.specs.Refusals.{first_of}

-- no test of the list is true; of a list that is written out, a pair for each test
abbrev pub NoneRefuses : List (Bool × Status) → Type 0
NoneRefuses [] = Unit {0}
NoneRefuses (test ∷ tests) = (test.0 ≡ false) × NoneRefuses tests

not_first : (test : Bool) (status : Status) (rest : Option Status) → cond test (Some status) rest ≡ None → (test ≡ false) × (rest ≡ None)
not_first true status rest none = absurd (none-some status (sym none))
not_first false status rest none = (refl, none)

-- where the tests give no refusal, none of them is true
pub none_refuses : (tests : List (Bool × Status)) → first_of tests ≡ None → NoneRefuses tests
none_refuses [] none = tt
none_refuses (test ∷ tests) none =
    let first = not_first test.0 test.1 (first_of tests) none in
    (first.0, none_refuses tests first.1)
