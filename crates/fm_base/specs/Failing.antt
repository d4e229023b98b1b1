-- A base one of whose device calls fails.
use Rattle.std.specs.Prelude.{◌≡◌, ◌≢◌, ℕ, ◌+◌, ◌-◌, ◌^◌, min, Option, Result, Err}
use Rattle.fm_types.specs.declared.status.Status.{Status}
use Rattle.fm_types.specs.declared.status.Status.TheVariants.{DeviceFault}
use Rattle.fm_base.specs.Answers.{calls_after}

-- the base that it is like, which call is to fail, counted from 1, how many were made, and how many failed here
pub record Failing (B : Type 0) : Type 0 where
  pub base : B
  pub number : ℕ
  pub calls : ℕ
  pub failures : ℕ

-- a count with one more, until it is full
abbrev pub counted : ℕ → ℕ
counted n = min (n + 1) (2 ^ 64 - 1)

-- the faults of the base and those made here, as one count, which is full at some time
abbrev pub faults_of : {B : Type 0} → (B → ℕ) → Failing B → ℕ
faults_of faults s = min (faults s.base + s.failures) (2 ^ 64 - 1)

-- the call that is to fail answers with a fault and leaves the base as it was
abbrev pub Fails : {B T : Type 0} → Failing B → Failing B → Result T Status → Type 0
Fails old new result = (result ≡ Err DeviceFault) × (new ≡ record old { calls = counted old.calls; failures = counted old.failures })

-- any other call leaves what the base makes of one call of its own
abbrev pub Passes : {B : Type 0} → (B → Option ℕ) → Failing B → Failing B → Type 0
Passes calls old new = (new ≡ record old { base = new.base; calls = counted old.calls }) × (calls new.base ≡ calls_after (calls old.base))

-- every call is counted
abbrev pub FailsNth : {B T : Type 0} → (B → Option ℕ) → Failing B → Failing B → Result T Status → Type 0
FailsNth calls old new result = (old.calls + 1 ≡ old.number → Fails old new result) × (old.calls + 1 ≢ old.number → Passes calls old new)
