-- All orders as a tree, and a search through it.
use Rattle.std.specs.Prelude.{◌≡◌, ◌<◌, ◌∷◌, [], ℕ, ⊤, List, All, Contains, map}
use Rattle.fm_choice.specs.declared.choice.Choice.{Choice}
use Rattle.fm_choice.specs.Choices.{IsLast, IsNextPath, taken_of}

-- a tree says how many options there are after those that were taken: none where a run is over. What is below the first of them is a tree again
abbrev pub below : ℕ → (List ℕ → ℕ) → List ℕ → ℕ
below option tree path = tree (option ∷ path)

-- the choices of a run of that tree, from its beginning to where it is over
abbrev pub IsRunOf : (List ℕ → ℕ) → List Choice → Type 0
IsRunOf tree [] = tree [] ≡ 0
IsRunOf tree (choice ∷ choices) = (choice.options ≡ tree []) × (choice.taken < choice.options) × IsRunOf (below choice.taken tree) choices

-- the options along one way through that tree, from its beginning to where it is over
abbrev pub IsPathOf : (List ℕ → ℕ) → List ℕ → Type 0
IsPathOf tree [] = tree [] ≡ 0
IsPathOf tree (option ∷ path) = (option < tree []) × IsPathOf (below option tree) path

-- a run takes a path: its options first, and then the first one at each choice
abbrev pub Takes : List ℕ → List Choice → Type 0
Takes [] [] = ⊤
Takes [] (choice ∷ choices) = (choice.taken ≡ 0) × Takes [] choices
Takes (option ∷ path) [] = ⊥
Takes (option ∷ path) (choice ∷ choices) = (choice.taken ≡ option) × Takes path choices

-- after these runs, the last one first, a search goes on along that path: it began with the empty one, each run took its path, and the next is the one after it
abbrev pub SearchesTo : List (List Choice) → List ℕ → Type 0
SearchesTo [] path = path ≡ []
SearchesTo (run ∷ earlier) path = (before : List ℕ) × SearchesTo earlier before × Takes before run × IsNextPath run path

-- these are all its runs, the last one first: no choice of the last one has an untried option
abbrev pub IsWholeSearch : List (List Choice) → Type 0
IsWholeSearch [] = ⊥
IsWholeSearch (run ∷ earlier) = (before : List ℕ) × SearchesTo earlier before × Takes before run × All IsLast run

-- if these runs are of one tree, each path of that tree is among them
abbrev pub RunsAll : List (List Choice) → Type 0
RunsAll runs = (tree : List ℕ → ℕ) → All (IsRunOf tree) runs → (path : List ℕ) → IsPathOf tree path → Contains (map taken_of runs) path
