-- What a search found, and what that comes to.
use Rattle.std.specs.Prelude.{◌≡◌, ℕ, ◌++◌, ◌∷◌, [], ◌||◌, Bool, true, false, cond, nat_lt, List, Option, Some, None}
use Rattle.std.specs.List.{list_any}
use Rattle.fm_callback_data.specs.declared.request.Reply.{Reply}
use Rattle.fm_trial.specs.declared.expectation.Expectation.{Expectation}
use Rattle.fm_trial.specs.Lines.{reply_meets}
use Rattle.fm_explore.specs.declared.found.FoundKind.{FoundKind}
use Rattle.fm_explore.specs.declared.found.FoundKind.TheVariants as kind
use Rattle.fm_explore.specs.declared.found.RunFinding.{RunFinding}
use Rattle.fm_explore.specs.declared.program.TrialOrSearch.{TrialOrSearch}
use Rattle.fm_explore.specs.declared.program.TrialOrSearch.TheVariants as ran
use Rattle.fm_explore.specs.declared.run.End.{End}
use Rattle.fm_explore.specs.declared.run.End.TheVariants as end
use Rattle.fm_explore.specs.declared.search.Stopped.{Stopped}
use Rattle.fm_explore.specs.declared.search.Stopped.TheVariants as stopped
use Rattle.fm_explore.specs.declared.verdict.Verdict.{Verdict}

-- a mistake that was told, or an expectation that wasn't met
abbrev pub is_wrong : FoundKind → Bool
is_wrong kind.Told = true
is_wrong kind.Unmet = true
is_wrong kind.Stuck = false
is_wrong kind.End = false

-- a client that waits while nobody can go on
abbrev pub is_stuck : FoundKind → Bool
is_stuck kind.Stuck = true
is_stuck kind.Told = false
is_stuck kind.Unmet = false
is_stuck kind.End = false

-- what no finding comes to
abbrev pub nothing_found : Verdict
nothing_found = record { is_wrong = false; is_stuck = false }

-- what findings come to with these
abbrev pub with_found : Verdict → List RunFinding → Verdict
with_found v found = record {
  is_wrong = v.is_wrong || list_any (λ (f : RunFinding). is_wrong f.kind) found;
  is_stuck = v.is_stuck || list_any (λ (f : RunFinding). is_stuck f.kind) found;
}

-- 5 if something is wrong, else 6 if a client was stuck
abbrev pub found_status : Verdict → ℕ
found_status v = cond v.is_wrong 5 (cond v.is_stuck 6 0)

-- a run that strays, that has no end, or of which not all was kept, leaves a search that isn't whole; no later run makes it whole again
abbrev pub stopped_by : Option Stopped → End → ℕ → Option Stopped
stopped_by before end.Strayed dropped = Some stopped.Strayed
stopped_by before end.Endless dropped = Some (cond (nat_lt 0 dropped) stopped.Dropped stopped.Endless)
stopped_by before end.Over dropped = cond (nat_lt 0 dropped) (Some stopped.Dropped) before

-- 1 if nothing could be set up; else what was found decides, else 4 if the search isn't whole, else 1 if nothing was tested
abbrev pub search_status : Verdict → Option Stopped → Bool → ℕ
search_status v (Some (stopped.SetUp line)) is_tested = 1
search_status v (Some other) is_tested = cond v.is_wrong 5 (cond v.is_stuck 6 4)
search_status v None is_tested = cond v.is_wrong 5 (cond v.is_stuck 6 (cond is_tested 0 1))

-- whether the last request came to what a line expects: where there was none, it didn't
abbrev pub is_met_by : Expectation → Option Reply → Bool
is_met_by expected None = false
is_met_by expected (Some reply) = reply_meets expected reply

-- what isn't met is found
abbrev pub Expected : Bool → List RunFinding → List RunFinding → Type 0
Expected true old new = new ≡ old
Expected false old new = (words : _) × (new ≡ old ++ record { kind = kind.Unmet; words = words } ∷ [])

-- the exit status of a program, whatever it was asked for
abbrev pub ran_status : TrialOrSearch → ℕ
ran_status (ran.Trial status) = status
ran_status (ran.Search status) = status
ran_status (ran.Replay status) = status
