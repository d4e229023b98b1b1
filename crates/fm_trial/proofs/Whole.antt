-- A scenario from its beginning to its end.
use Rattle.std.proofs.Common.{◌≡◌, Bool, List, ℕ, false, inl, inr, refl, true}
use Rattle.std.specs.Global.{Vec}
use Rattle.fm_filter.specs.declared.minifilter.Minifilter as filter
use Rattle.fm_trial.specs.declared.scenario.Scenario.{Scenario}
use Rattle.fm_trial.specs.Lines.{text_lines}
use Rattle.fm_trial.specs.Scenarios.{EndsAfter, EndsScenario, IsFresh, TakesLines}

pub ends : {F : Type 0} (f : filter.Ghosts F) (filters : Vec (List ℕ × F)) (text : List ℕ) (first last : Scenario F) (status : ℕ) (known : Bool) → IsFresh filters first
    → (known ≡ true → TakesLines f (text_lines text) first last) → EndsAfter known last status → EndsScenario f filters text status
ends f filters text first last status true fresh lines end =
    inr (end.0, record { first = first; last = last; fresh = fresh; lines = lines refl; ends = end.1 }, end.2)
ends f filters text first last status false fresh lines end = inl end
