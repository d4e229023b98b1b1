-- Filters that are plain: functions of the callback data, which hold nothing and use nothing of the manager.
use Rattle.std.specs.Prelude.{◌≡◌, ⊤, None}
use Rattle.fm_callback_data.specs.Data.{Data}
use Rattle.fm_callback_data.specs.declared.verdict.Completion.{Completion}
use Rattle.fm_callback_data.specs.declared.verdict.PreVerdict.{PreVerdict}
use Rattle.fm_callback_data.specs.declared.verdict.PreVerdict.TheVariants as verdict
use Rattle.fm_callback_data.specs.declared.verdict.PostVerdict.{PostVerdict}
use Rattle.fm_callback_data.specs.declared.verdict.PostVerdict.TheVariants as end

-- a verdict that doesn't hold the operation, and sends no context along
abbrev pub IsPlainPre : PreVerdict → Type 0
IsPlainPre (verdict.WithCallback completion) = completion.context ≡ None
IsPlainPre (verdict.Synchronize completion) = completion.context ≡ None
IsPlainPre verdict.NoCallback = ⊤
IsPlainPre (verdict.Complete status) = ⊤
IsPlainPre verdict.Pending = ⊥

-- a verdict that doesn't hold the operation
abbrev pub IsPlainPost : PostVerdict → Type 0
IsPlainPost end.Finished = ⊤
IsPlainPost end.MoreProcessing = ⊥

-- a plain filter, by the relations of its callbacks: all their verdicts are plain, and they leave their port alone
pub record IsPlainFilter {F : Type 0} (pre : F → Data → PreVerdict → Data → Type 0) (post : F → Data → Completion → PostVerdict → Data
    → Type 0) (is_quiet : F → Type 0) (f : F) : Type 0 where
  pub descends : (old : Data) → (answer : PreVerdict) → (new : Data) → pre f old answer new → IsPlainPre answer
  pub ascends : (old : Data) → (completion : Completion) → (answer : PostVerdict) → (new : Data) → post f old completion answer new → IsPlainPost answer
  pub quiet : is_quiet f
