-- Lines of a scenario, one after the other.
use Rattle.std.proofs.Common.{◌∷◌, List, ℕ, true}
use Rattle.fm_filter.specs.declared.minifilter.Minifilter as filter
use Rattle.fm_trial.specs.declared.scenario.Scenario.{Scenario}
use Rattle.fm_trial.specs.Lines.{IsWithoutReturn}
use Rattle.fm_trial.specs.Scenarios.{TakesLine, TakesLines}

module _ {F : Type 0} (f : filter.Ghosts F) where
  -- whatever the lines that are left make of it, all lines make of what was
  abbrev pub Leads : List (List ℕ) → List (List ℕ) → Scenario F → Scenario F → Type 0
  Leads lines left old now = (new : Scenario F) → TakesLines f left now new → TakesLines f lines old new

  pub one_more : (lines left : List (List ℕ)) (whole text : List ℕ) (old now mid : Scenario F) → Leads lines (whole ∷ left) old now
      → IsWithoutReturn whole text → TakesLine f text true now mid → Leads lines left old mid
  one_more lines left whole text old now mid leads cut taken new rest = leads new (text, mid, cut, taken, rest)
