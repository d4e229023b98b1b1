-- The bases of volumes as one device.
use Rattle.std.specs.Prelude.{◌≡◌, ◌≤◌, List, Option, Some, length, slice_get, ℕ, ◌≢◌}
use Rattle.fm_base.specs.Folders.{Folder}
use Rattle.fm_callback_data.specs.Calls.{BaseCall}
use Rattle.fm_callback_data.specs.declared.answer.Answer.{Answer}
use Rattle.fm_types.specs.declared.status.Status.TheVariants.{NoVolume}
use Rattle.fm_device.specs.Devices.{bare, faults_told, CarriesAny, KnownAs}

-- one base carries a call out as its folder says, if it knows it, and counts its faults, and nothing else as one
pub record BaseCarries {B : Type 0} (folder : B → Option Folder) (faults : B → ℕ) (call : BaseCall) (answer : Answer) (old new : B) : Type 0 where
  pub known : KnownAs (folder old) (folder new) (λ was is. CarriesAny call.path call.params was is answer)
  pub counts : faults new ≡ faults_told answer.status (faults old)

-- so does the base of the call's volume; all others stay, and a volume that isn't there is refused
pub record BasesCarry {B : Type 0} (folder : B → Option Folder) (faults : B → ℕ) (old : List B) (call : BaseCall) (answer : Answer)
    (new : List B) : Type 0 where
  pub absent : length old ≤ call.volume.0 → (answer ≡ bare NoVolume) × (new ≡ old)
  pub carried : (was : B) → slice_get old call.volume.0 ≡ Some was → (is : B) × (slice_get new call.volume.0 ≡ Some is)
      × BaseCarries folder faults call answer was is
  pub others : (k : ℕ) → k ≢ call.volume.0 → slice_get new k ≡ slice_get old k
  pub same : length new ≡ length old
