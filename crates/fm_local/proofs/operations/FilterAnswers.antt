-- What the filter that was found for an instance answered, or was told, is what the one that is wanted may answer.
use Rattle.fm_local.proofs.Words.{◌≡◌, ⊤, Bool, Completion, Data, None, Option, PostVerdict, PreVerdict, Some, false, subst, sym}
use Rattle.std.specs.Borrow.{Bor}
use Rattle.std.specs.Prelude.{MatchOption}
use Rattle.fm_callback_data.specs.declared.verdict.PreVerdict.TheVariants.{NoCallback}
use Rattle.fm_callback_data.specs.declared.verdict.PostVerdict.TheVariants.{Finished}
use Rattle.fm_local.specs.Calls.{MayAgree}
use Rattle.fm_local.specs.Chains.{PostMay, PreMay}
use Rattle.fm_local.specs.Drains.{WasCalled}
use Rattle.fm_local.specs.Managers.{IsQuietIn}

module _ {F : Type 0} (wanted : Option F) where
  -- a filter is found if one is wanted, and it is that one
  abbrev pub IsFound : Option (Bor F) → Type 0
  IsFound found = MatchOption found (wanted ≡ None) (λ f. wanted ≡ Some f.now)

  pub agreed : (may : F → Bool → Type 0) (found : Option (Bor F)) (answer : Bool) → IsFound found
      → MatchOption found (answer ≡ false) (λ f. may f.now answer) → MayAgree may wanted answer
  agreed may None answer is said = subst (λ w. MayAgree may w answer) (sym is) said
  agreed may (Some f) answer is said = subst (λ w. MayAgree may w answer) (sym is) said

  pub before_base : (may : F → Data → PreVerdict → Data → Type 0) (found : Option (Bor F)) (given : Data) (verdict : PreVerdict) (back : Data) → IsFound found
      → MatchOption found ((verdict ≡ NoCallback) × (back ≡ given)) (λ f. may f.now given verdict back) → PreMay may wanted given verdict back
  before_base may None given verdict back is said = subst (λ w. PreMay may w given verdict back) (sym is) said
  before_base may (Some f) given verdict back is said = subst (λ w. PreMay may w given verdict back) (sym is) said

  pub after_base : (may : F → Data → Completion → PostVerdict → Data → Type 0) (found : Option (Bor F)) (given : Data)
      (completion : Completion) (verdict : PostVerdict) (back : Data) → IsFound found
      → MatchOption found ((verdict ≡ Finished) × (back ≡ given)) (λ f. may f.now given completion verdict back)
      → PostMay may wanted given completion verdict back
  after_base may None given completion verdict back is said = subst (λ w. PostMay may w given completion verdict back) (sym is) said
  after_base may (Some f) given completion verdict back is said = subst (λ w. PostMay may w given completion verdict back) (sym is) said

  pub was_told : (holds : F → Type 0) (found : Option (Bor F)) → IsFound found → MatchOption found ⊤ (λ f. holds f.now) → WasCalled holds wanted
  was_told holds None is told = subst (λ w. WasCalled holds w) (sym is) told
  was_told holds (Some f) is told = subst (λ w. WasCalled holds w) (sym is) told

  pub is_quiet_found : (is_quiet : F → Type 0) (found : Option (Bor F)) → IsFound found → IsQuietIn is_quiet wanted → MatchOption found ⊤ (λ f. is_quiet f.now)
  is_quiet_found is_quiet None is quiet = subst (λ w. IsQuietIn is_quiet w) is quiet
  is_quiet_found is_quiet (Some f) is quiet = subst (λ w. IsQuietIn is_quiet w) is quiet
