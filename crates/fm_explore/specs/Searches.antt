-- A search through all orders that the bound allows.
use Rattle.std.specs.Prelude.{◌≡◌, ◌∷◌, [], ℕ, List, All, Option, MatchOption, map}
use Rattle.std.specs.Global.{Vec}
use Rattle.fm_choice.specs.Choices.{IsLast, IsNextPath}
use Rattle.fm_choice.specs.Trees.{IsWholeSearch, RunsAll, SearchesTo}
use Rattle.fm_choice.specs.declared.choice.Choice.{Choice}
use Rattle.fm_explore.specs.declared.found.RunFinding.{RunFinding}
use Rattle.fm_explore.specs.declared.run.End.{End}
use Rattle.fm_explore.specs.declared.search.Search.{Search}
use Rattle.fm_explore.specs.declared.verdict.Verdict.{Verdict}
use Rattle.fm_explore.specs.Verdicts.{nothing_found, stopped_by, with_found}

-- a run that was made: its choices, what was found in it, how it ended, and how much of it wasn't kept
pub record RunMade : Type 0 where
  pub choices : List Choice
  pub found : List RunFinding
  pub end : End
  pub dropped : ℕ

abbrev pub choices_of : List RunMade → List (List Choice)
choices_of runs = map (λ (run : RunMade). run.choices) runs

-- what runs come to, the last one first
abbrev pub verdict_of : List RunMade → Verdict
verdict_of [] = nothing_found
verdict_of (run ∷ earlier) = with_found (verdict_of earlier) run.found

-- what a search notes of a run
abbrev pub Notes : RunMade → Search → Search → Type 0
Notes run old new = (new.verdict ≡ with_found old.verdict run.found) × (new.stopped ≡ stopped_by old.stopped run.end run.dropped)

-- after a run a search that is whole so far goes on to the next path, or is at its end
abbrev pub GoesOn : RunMade → Option (Vec ℕ) → Type 0
GoesOn run next = MatchOption next (All IsLast run.choices) (λ (path : Vec ℕ). IsNextPath run.choices path.items)

-- so many runs of a search, the last one first, each of which took its path, and came to what it notes; the next one takes that path
abbrev pub Searched : List RunMade → List ℕ → Search → Type 0
Searched runs path search = SearchesTo (choices_of runs) path × (search.verdict ≡ verdict_of runs)

-- a search is whole: these are all its runs, the last one first, each of which took its path; of a tree of which they all are none was left. They came to its verdict
abbrev pub IsWhole : Search → List RunMade → Type 0
IsWhole search runs = IsWholeSearch (choices_of runs) × RunsAll (choices_of runs) × (search.verdict ≡ verdict_of runs)

-- a whole search found nothing: in no run of it was a mistake told, an expectation not met, or a client stuck
abbrev pub FindsNothing : List RunMade → Type 0
FindsNothing runs = IsWholeSearch (choices_of runs) × RunsAll (choices_of runs) × (verdict_of runs ≡ nothing_found)
