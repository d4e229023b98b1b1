use Rattle.fm_base.proofs.Words.{nat_cmp}
use Rattle.std.specs.Prelude.{◌≡◌, ℕ, ◌<◌, length}
use Rattle.std.specs.BTreeMap as tree
use Rattle.fm_base.proofs.pages.drop_pages.Given as goal

-- the pages below the end are as they were
abbrev pub invariant-loop-number : goal.invariant-loop-number
invariant-loop-number l = (q : ℕ) → q < l.end → tree.get nat_cmp l.pages q ≡ tree.get nat_cmp l.initial.pages q

abbrev pub decreases-loop-number : goal.decreases-loop-number
decreases-loop-number l = length l.pages.entries
