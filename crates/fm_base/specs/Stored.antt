-- How a base in memory keeps its folder.
use Rattle.std.specs.Prelude.{ℕ, List}
use Rattle.std.specs.FinMap.{from_entries}
use Rattle.fm_base.specs.Folders.{Folder}

-- files by their paths
abbrev pub Entries : Type 0
Entries = List (List ℕ × List ℕ)

-- the folder of the entries of a map from paths to files
abbrev pub folder_of : Entries → Folder
folder_of entries = from_entries entries
