-- What the sample filters have in common.
use Rattle.std.specs.Prelude.{◌≡◌, ℕ, List, None}
use Rattle.fm_types.specs.declared.context_kind.ContextKind.{ContextKind}
use Rattle.fm_callback_data.specs.Data.{Data}
use Rattle.fm_callback_data.specs.declared.verdict.Completion.{Completion}
use Rattle.fm_callback_data.specs.declared.verdict.PreVerdict.{PreVerdict}
use Rattle.fm_callback_data.specs.declared.verdict.PreVerdict.TheVariants.{NoCallback}
use Rattle.fm_callback_data.specs.declared.verdict.PostVerdict.{PostVerdict}
use Rattle.fm_callback_data.specs.declared.verdict.PostVerdict.TheVariants.{Finished}

-- a postoperation that leaves the data as it is, and lets it go on
abbrev pub IsBarePost : Data → Completion → PostVerdict → Data → Type 0
IsBarePost old completion answer new = (answer ≡ Finished) × (new ≡ old)

-- a cleanup that counts nothing
abbrev pub CountsNothing : ContextKind → List ℕ → ℕ → Type 0
CountsNothing kind body number = number ≡ 0

-- a completion that says nothing
abbrev pub plain_completion : Completion
plain_completion = record { number = 0; context = None }

-- a preoperation that leaves the data as it is, and lets it go on
abbrev pub IsBarePre : Data → PreVerdict → Data → Type 0
IsBarePre old answer new = (answer ≡ NoCallback) × (new ≡ old)
