-- The grammar of paths.
use Rattle.std.specs.Prelude.{◌≢◌, ℕ, ◌≤◌, ◌==◌, List, [], ◌∷◌, length, All}
use Rattle.std.specs.List.{slice_split}

-- a byte from the space to `~`
abbrev pub IsPathByte : ℕ → Type 0
IsPathByte byte = (32 ≤ byte) × (byte ≤ 126)

-- a part of a path is neither empty nor `.` nor `..`
pub record IsPathPart (part : List ℕ) : Type 0 where
  pub some : part ≢ []
  pub not_here : part ≢ (46 ∷ [])
  pub not_above : part ≢ (46 ∷ 46 ∷ [])

-- the parts of a path, which `/` divides
abbrev pub parts_of : List ℕ → List (List ℕ)
parts_of text = slice_split (λ byte. byte == 47) text

-- a path below the root of a volume; the empty text has one part, which is empty, and so is no path
pub record IsPath (text : List ℕ) : Type 0 where
  pub few : length text ≤ 255
  pub characters : All IsPathByte text
  pub parts : All IsPathPart (parts_of text)
