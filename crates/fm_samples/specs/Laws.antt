-- What follows from what the sample filters may answer.
use Rattle.std.specs.Prelude.{◌≡◌, ℕ, ◌<◌, List, All}
use Rattle.fm_filter.specs.Plain.{IsPlainFilter}
use Rattle.fm_samples.specs.declared.sample.Sample.{Sample}
use Rattle.fm_samples.specs.Sample.{SamplesPre, SamplesPost, IsQuietSample}
use Rattle.fm_samples.specs.Shift.{raised, lowered}

-- each sample that calls nothing of the manager is a plain filter
abbrev pub PlainWhereQuiet : Type 0
PlainWhereQuiet = (f : Sample) → IsQuietSample f → IsPlainFilter SamplesPre SamplesPost IsQuietSample f

-- bytes that are raised and then lowered are what they were
abbrev pub ReadsWhatWasWritten : Type 0
ReadsWhatWasWritten = (bytes : List ℕ) → All (λ byte. byte < 256) bytes → lowered (raised bytes) ≡ bytes
