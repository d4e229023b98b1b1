-- What is left of a fold, of an operation that is on its way.
use Rattle.std.specs.Prelude.{[], ⊤, ◌∷◌, ◌≡◌, ◌≤◌, List, None, Option, Some, ℕ, take}
use Rattle.fm_local.specs.Words.{Answer, FlowRecord, Params, WorkerId}
use Rattle.fm_operations.specs.declared.entry.Ask.{Ask}
use Rattle.fm_operations.specs.declared.stage.Stage.{Stage}
use Rattle.fm_operations.specs.declared.stage.Stage.TheVariants.{Descending, Ascending}
use Rattle.fm_operations.specs.Entries.{owed, last_visited}
use Rattle.fm_operations.specs.Seen.{sees}
use Rattle.fm_local.specs.Folds.{Chain, Asker, asker, Rises, Descends}

-- those that are owed their postoperations, as the fold sees them: each with what its preoperation received
abbrev pub askers : List Ask → List Params → Params → List Asker
askers [] kept current = []
askers (ask ∷ asks) kept current = asker ask.instance.0 (sees kept ask.place current) ask.completion
    ∷ askers asks (take ask.place kept) (sees kept ask.place current)

-- on the way down, the instances that are still to be met, as `Meets` says it of the one that was visited last; on the way up, those that asked
abbrev pub LeftAt : {W : Type 0} → Chain W → (Option ℕ → List ℕ → Type 0) → Stage → FlowRecord → Params → W → Answer → W → Type 0
LeftAt chain Meets Descending r p old answer new =
    (below : List ℕ) × Meets (last_visited r.entries) below × Descends chain below p (askers (owed r.entries) r.kept p) old answer new
LeftAt chain Meets Ascending r p old answer new = Rises chain (askers (owed r.entries) r.kept p) r.answer answer × (new ≡ old)
LeftAt chain Meets _ r p old answer new = ⊥

abbrev pub LeftIn : {W : Type 0} → Chain W → (Option ℕ → List ℕ → Type 0) → FlowRecord → Option Params → W → Answer → W → Type 0
LeftIn chain Meets r None old answer new = ⊥
LeftIn chain Meets r (Some p) old answer new = LeftAt chain Meets r.stage r p old answer new

-- what is left may give that answer, and leave that end
abbrev pub LeftOf : {W : Type 0} → Chain W → (Option ℕ → List ℕ → Type 0) → FlowRecord → W → Answer → W → Type 0
LeftOf chain Meets r old answer new = LeftIn chain Meets r r.params old answer new

-- asks of one worker; the later an instance asked, the later in the list of what was kept its place is
abbrev pub ArePlain : WorkerId → ℕ → List Ask → Type 0
ArePlain k most [] = ⊤
ArePlain k most (ask ∷ asks) = (ask.place ≤ most) × (ask.worker ≡ k) × ArePlain k ask.place asks
