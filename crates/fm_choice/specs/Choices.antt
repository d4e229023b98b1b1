-- What is said of choices, and of the paths that a search follows.
use Rattle.std.specs.Prelude.{◌≡◌, ◌+◌, ◌<◌, ◌≤◌, ◌⊎◌, ◌++◌, ◌∷◌, [], ℕ, ⊤, List, All, Option, Some, drop, map, slice_get, take}
use Rattle.fm_choice.specs.declared.choice.Choice.{Choice}

-- a choice has no option behind the one that was taken
abbrev pub IsLast : Choice → Type 0
IsLast choice = choice.options ≤ choice.taken + 1

-- the options that were taken, in their order
abbrev pub taken_of : List Choice → List ℕ
taken_of choices = map (λ (choice : Choice). choice.taken) choices

-- the last of the choices that has an untried option stands at that place
pub record IsLastOpen (choices : List Choice) (at : ℕ) (choice : Choice) : Type 0 where
  pub there : slice_get choices at ≡ Some choice
  pub untried : IsLast choice → ⊥
  pub behind : All IsLast (drop (at + 1) choices)

-- the path of the next run: the same up to the last choice that has an untried option, and there the option behind the one that was taken
pub record IsNextPath (choices : List Choice) (path : List ℕ) : Type 0 where
  pub at : ℕ
  pub choice : Choice
  pub turn : IsLastOpen choices at choice
  pub goes : path ≡ taken_of (take at choices) ++ (choice.taken + 1) ∷ []

-- a run followed a path: it took its options first, and then others
pub record Follows (path : List ℕ) (choices : List Choice) : Type 0 where
  pub others : List ℕ
  pub took : taken_of choices ≡ path ++ others

-- a path comes before another: at the first place where they differ it has the lower option, or it ends there
abbrev pub IsBefore : List ℕ → List ℕ → Type 0
IsBefore path [] = ⊥
IsBefore [] (option ∷ options) = ⊤
IsBefore (first ∷ path) (option ∷ options) = (first < option) ⊎ ((first ≡ option) × IsBefore path options)
