-- Which of the host's files and folders are a base's, by what the host tells of them.
use Rattle.std.specs.Prelude.{◌≡◌, ◌≢◌, ◌⊎◌, ℕ, Bool, true, false, List, Option, Some, None, Result, Ok, Err}
use Rattle.std.specs.IoError.{error_kind}
use Rattle.std.specs.declared.io.Error.{Error}
use Rattle.std.specs.declared.io.ErrorKind.TheVariants as kind
use Rattle.fm_types.specs.Paths.{IsPath}

-- what lies there is a regular file of that size; nothing else is a file
abbrev pub TellsSize : Bool → ℕ → Result ℕ Error → Type 0
TellsSize is_file len (Ok size) = (is_file ≡ true) × (size ≡ len)
TellsSize is_file len (Err error) = (is_file ≡ false) × (error_kind error ≡ kind.Unsupported)

-- what lies there is a folder; a file is none
abbrev pub TellsFolder : Bool → Result (Unit {0}) Error → Type 0
TellsFolder is_folder (Ok done) = is_folder ≡ true
TellsFolder is_folder (Err error) = (is_folder ≡ false) × (error_kind error ≡ kind.NotADirectory)

-- the entry went away before the host could tell what it is
abbrev pub IsGone : Result Bool Error → Type 0
IsGone (Ok may_be_file) = ⊥
IsGone (Err error) = error_kind error ≡ kind.NotFound

-- an entry is listed where its name is a path and the host tells that it may be a file; it is left out where its name is no path, where it can
-- be none, and where it went away; else the host's error is handed on
abbrev pub Lists : List ℕ → Result Bool Error → Result (Option (List ℕ)) Error → Type 0
Lists name may_be_file (Ok (Some listed)) = IsPath name × (may_be_file ≡ Ok true) × (listed ≡ name)
Lists name may_be_file (Ok None) = IsPath name → (may_be_file ≡ Ok false) ⊎ IsGone may_be_file
Lists name may_be_file (Err error) = IsPath name × (may_be_file ≡ Err error) × (error_kind error ≢ kind.NotFound)
