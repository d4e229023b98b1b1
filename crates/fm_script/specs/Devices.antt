-- What the devices of a script answer.
use Rattle.std.specs.Prelude.{◌≡◌, ℕ, ◌+◌, ◌-◌, ◌^◌, ◌==◌, ◌++◌, ◌∷◌, [], cond, min, nat_lt, replicate, Bool, true, false, List}
use Rattle.std.specs.List.{list_any}
use Rattle.fm_types.specs.declared.status.Status.TheVariants.{DeviceFault}
use Rattle.fm_script.specs.Words.{Answer, BaseCall}
use Rattle.std.specs.FinMap.{empty}
use Rattle.fm_base.specs.Folders.{Folder}
use Rattle.fm_device.specs.Devices.{bare, CarriesCall}
use Rattle.fm_script.specs.declared.devices.Devices.{Devices}

-- one more, until the count is full
abbrev pub one_more : ℕ → ℕ
one_more count = min (count + 1) (2 ^ 64 - 1)

-- the call of that number is one of those that fail
abbrev pub is_failing : ℕ → List ℕ → Bool
is_failing number failing = list_any (λ other. other == number) failing

-- a call that fails changes no folder; any other is one of the folders
abbrev pub CallsOrFails : Bool → List Folder → BaseCall → Answer → List Folder → Type 0
CallsOrFails true old call answer new = (answer ≡ bare DeviceFault) × (new ≡ old)
CallsOrFails false old call answer new = CarriesCall old call answer new

pub record Calls (old : Devices) (call : BaseCall) (answer : Answer) (new : Devices) : Type 0 where
  pub counted : new.calls ≡ one_more old.calls
  pub failures : new.failures ≡ cond (is_failing new.calls old.failing.items) (one_more old.failures) old.failures
  pub failing : new.failing ≡ old.failing
  pub folders : CallsOrFails (is_failing new.calls old.failing.items) old.folders call answer new.folders

-- the call of a number will fail, unless it was made
abbrev pub failing_with : ℕ → ℕ → List ℕ → List ℕ
failing_with number calls failing = cond (nat_lt calls number) (failing ++ number ∷ []) failing

-- no file, no call that was made, and none that will fail
abbrev pub AreFresh : Devices → Type 0
AreFresh devices = (devices.folders ≡ replicate 8 empty) × (devices.failing.items ≡ []) × (devices.calls ≡ 0) × (devices.failures ≡ 0)
