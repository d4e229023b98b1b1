-- The exit status of a trial.
use Rattle.std.specs.Prelude.{◌≡◌, ℕ, List, Ok, string_bytes, ◌||◌, cond, count_by, nat_eq}
use Rattle.std.specs.Global.{Vec}
use Rattle.fm_filter.specs.declared.minifilter.Minifilter as filter
use Rattle.fm_mistakes.specs.declared.account.Account.{Account}
use Rattle.fm_local.specs.Offered.{world}
use Rattle.fm_mistakes.specs.Accounts.{counts_as_mistake, told_leaks}
use Rattle.fm_trial.specs.declared.scenario.Scenario.{Scenario}
use Rattle.fm_trial.specs.declared.scenario_text.ScenarioText.{ScenarioText}
use Rattle.fm_trial.specs.Scenarios.{IsWhole}

-- of two files: 2 before 1, 1 before any other, and any before 0
abbrev pub worse : ℕ → ℕ → ℕ
worse one other = cond (nat_eq one 2 || nat_eq other 2) 2 (cond (nat_eq one 1 || nat_eq other 1) 1 (cond (nat_eq other 0) one other))

-- each mistake that was told was expected by a line of its own, each expectation was met, and all was kept of which a mistake could have been told
pub record IsWell (a : Account) : Type 0 where
  pub expected : count_by counts_as_mistake a.told.items ≡ 0
  pub met : a.unmet ≡ 0
  pub kept : a.dropped ≡ 0

-- each reference that a callback left behind was told, as many as the world counts, so that a line of its own expected it
abbrev pub TellsLeaks : {F : Type 0} → Scenario F → Account → Type 0
TellsLeaks last end = told_leaks end ≡ (world last.exec.manager).contexts.leaks

module _ {F : Type 0} (f : filter.Ghosts F) where
  -- a scenario of that text over these filters, each line of which says something, and that came to no trouble
  abbrev pub Passes : Vec (List ℕ × F) → List ℕ → Type 0
  Passes filters text = (end : Account) × (whole : IsWhole f filters text end) × IsWell end × TellsLeaks whole.last end

  -- a scenario whose text was read, over filters that may be made
  abbrev pub PassesText : (Vec (List ℕ × F) → Type 0) → ScenarioText → Type 0
  PassesText made scenario = (text : _) × (filters : Vec (List ℕ × F)) × (scenario.text ≡ Ok text) × made filters × Passes filters (string_bytes text)
