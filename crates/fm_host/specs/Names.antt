-- What a listing of a folder of the host is.
use Rattle.std.specs.Prelude.{◌≡◌, ℕ, ◌+◌, ◌≤◌, List, length}
use Rattle.std.specs.List.Sorted.{IsSorted}
use Rattle.std.specs.Ordering.{nat_cmp}
use Rattle.std.specs.Cmp.Lexicographic.{slice_cmp}
use Rattle.fm_base.specs.Folders.{lines_of}

-- how many bytes the line of a name has
abbrev pub line_length : List ℕ → ℕ
line_length name = length name + 1

-- the bytes are the lines of some names that ascend by bytes, and no more than an operation may have
pub record IsListing (bytes : List ℕ) : Type 0 where
  pub names : List (List ℕ)
  pub ascending : IsSorted (slice_cmp nat_cmp) names
  pub spelt : bytes ≡ lines_of names
  pub within : length bytes ≤ 32768
