-- What is read one after the other, and which of two cases holds.
use Rattle.std.specs.Prelude.{Bool, true, false, Result, Ok, Err}
use Rattle.fm_types.specs.declared.status.Status.{Status}

-- what comes next, unless there was a refusal
infixl 10 ◌>>=◌
abbrev pub ◌>>=◌ : {A B : Type 0} → Result A Status → (A → Result B Status) → Result B Status
(Ok x) >>= next = next x
(Err status) >>= next = Err status

-- the one case where the test holds, else the other
abbrev pub Either : Bool → Type 0 → Type 0 → Type 0
Either true A B = A
Either false A B = B
