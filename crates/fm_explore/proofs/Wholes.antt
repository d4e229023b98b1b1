-- Searches that are whole.
use Rattle.std.proofs.Common.{◌≡◌, ◌∙◌, ◌∷◌, ℕ, All, Bool, true, false, cond, Option, Some, None, List, nat_lt, refl, sym, ap, ap₂, arith}
use Rattle.std.proofs.lemmas.Option.{none-some}
use Rattle.fm_choice.specs.Choices.{IsLast, IsNextPath}
use Rattle.fm_choice.specs.Trees.{IsWholeSearch, RunsAll, Takes}
use Rattle.fm_choice.specs.declared.choice.Choice.{Choice}
use Rattle.fm_explore.specs.declared.run.End.{End}
use Rattle.fm_explore.specs.declared.run.End.TheVariants as end
use Rattle.fm_explore.specs.declared.search.Search.{Search}
use Rattle.fm_explore.specs.declared.search.Stopped.{Stopped}
use Rattle.fm_explore.specs.declared.search.Stopped.TheVariants as stopped
use Rattle.fm_explore.specs.declared.verdict.Verdict.{Verdict}
use Rattle.fm_explore.specs.Searches.{IsWhole, Notes, RunMade, Searched, choices_of}
use Rattle.fm_explore.specs.Verdicts.{nothing_found, search_status, stopped_by, with_found}

-- a run after which a search is whole so far is over
pub is_over : (before : Option Stopped) (e : End) (dropped : ℕ) → stopped_by before e dropped ≡ None → e ≡ end.Over
is_over before end.Over dropped none = refl
is_over before end.Strayed dropped none = absurd (none-some _ (sym none))
is_over before end.Endless dropped none = absurd (none-some _ (sym none))

none_of : (b : Bool) (x : Stopped) (before : Option Stopped) → cond b (Some x) before ≡ None → before ≡ None
none_of true x before none = absurd (none-some x (sym none))
none_of false x before none = none

-- a search that is whole so far was so before its last run
pub was_whole : (before : Option Stopped) (e : End) (dropped : ℕ) → stopped_by before e dropped ≡ None → before ≡ None
was_whole before end.Strayed dropped none = absurd (none-some _ (sym none))
was_whole before end.Endless dropped none = absurd (none-some _ (sym none))
was_whole before end.Over dropped none = none_of (nat_lt 0 dropped) stopped.Dropped before none

-- the search goes on along the next path
pub searched_more : (runs : List RunMade) (path next : List ℕ) (old new : Search) (run : RunMade) → Searched runs path old → Takes path run.choices → Notes run old new
    → IsNextPath run.choices next → Searched (run ∷ runs) next new
searched_more runs path next old new run searched takes notes goes = ((path, searched.0, takes, goes), notes.0 ∙ ap (λ (v : Verdict). with_found v run.found) searched.1)

-- the search is at its end
pub searched_whole : ((runs : List (List Choice)) → IsWholeSearch runs → RunsAll runs) → (runs : List RunMade) (path : List ℕ) (old new : Search) (run : RunMade)
    → Searched runs path old → Takes path run.choices → Notes run old new → All IsLast run.choices → IsWhole new (run ∷ runs)
searched_whole law runs path old new run searched takes notes last =
    let whole : IsWholeSearch (choices_of (run ∷ runs)) = (path, searched.0, takes, last) in
    (whole, law (choices_of (run ∷ runs)) whole, notes.0 ∙ ap (λ (v : Verdict). with_found v run.found) searched.1)

neither : (a b : Bool) (n : ℕ) → cond a 5 (cond b 6 n) ≡ 0 → (a ≡ false) × (b ≡ false) × (n ≡ 0)
neither true b n zero = absurd (omega (arith, zero))
neither false true n zero = absurd (omega (arith, zero))
neither false false n zero = (refl, refl, zero)

nothing_of : (v : Verdict) → v.is_wrong ≡ false → v.is_stuck ≡ false → v ≡ nothing_found
nothing_of v wrong stuck = ap₂ (λ (a b : Bool). record { is_wrong = a; is_stuck = b }) wrong stuck

-- a search that ends with 0 is whole, and found nothing
pub nothing_in : (v : Verdict) (s : Option Stopped) (tested : Bool) → search_status v s tested ≡ 0 → (s ≡ None) × (v ≡ nothing_found)
nothing_in v None tested zero = let h = neither v.is_wrong v.is_stuck (cond tested 0 1) zero in (refl, nothing_of v h.0 h.1)
nothing_in v (Some (stopped.SetUp line)) tested zero = absurd (omega (arith, zero))
nothing_in v (Some stopped.Endless) tested zero = absurd (omega (arith, (neither v.is_wrong v.is_stuck 4 zero).2))
nothing_in v (Some stopped.Strayed) tested zero = absurd (omega (arith, (neither v.is_wrong v.is_stuck 4 zero).2))
nothing_in v (Some stopped.Dropped) tested zero = absurd (omega (arith, (neither v.is_wrong v.is_stuck 4 zero).2))
