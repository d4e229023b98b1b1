use Rattle.fm_base.proofs.Words.{keys, listing_of}
use Rattle.std.specs.Prelude.{◌≡◌, ◌++◌}
use Rattle.fm_base.proofs.listing.lines.Given as goal

-- the lines so far and those of the paths that are left are all lines
abbrev pub invariant-loop-path : goal.invariant-loop-path
invariant-loop-path l = l.listing.items ++ listing_of l.path-iterator ≡ listing_of (keys l.files)
