-- How long the lines of names are, in whatever order.
use Rattle.std.specs.Prelude.{◌≡◌, ℕ, ◌≤◌, List, [], ◌∷◌, ◌++◌, length, refl}
use Rattle.std.proofs.Common.{ap, arith, length-append}
use Rattle.std.proofs.lemmas.List.Sums.{sum_by-cons}
use Rattle.std.proofs.lemmas.List.Sorted.{sum_by-IsPermutation}
use Rattle.std.specs.List.{sum_by}
use Rattle.std.specs.List.Sorted.{IsSorted, IsPermutation}
use Rattle.std.specs.Ordering.{nat_cmp}
use Rattle.std.specs.Cmp.Lexicographic.{slice_cmp}
use Rattle.fm_base.specs.Folders.{lines_of}
use Rattle.fm_host.specs.Names.{line_length, IsListing}

length-lines : (names : List (List ℕ)) → length (lines_of names) ≡ sum_by line_length names
length-lines [] = refl
length-lines (name ∷ names) =
    omega (
      arith,
      length-append (name ++ 10 ∷ []) (lines_of names),
      length-append name (10 ∷ []),
      length-lines names,
      sum_by-cons line_length name
          names,
    )

-- the lines of names that were told, once they are in order
pub listing_is : (told names : List (List ℕ)) (bytes : List ℕ) → sum_by line_length told ≤ 32768 → IsPermutation told names
    → IsSorted (slice_cmp nat_cmp) names → bytes ≡ lines_of names → IsListing bytes
listing_is told names bytes few same ascending spelt = record {
  names = names;
  ascending = ascending;
  spelt = spelt;
  within = omega (arith, ap length spelt, length-lines names, sum_by-IsPermutation line_length told names same, few);
}
