use Rattle.std.proofs.Common.{◌≡◌, ◌≤◌, take, length}
use Rattle.fm_operations.proofs.Words.{count_by, is_due}
use Rattle.fm_operations.proofs.entries.due_place.Given as goal

-- it isn't behind the place
abbrev pub invariant-loop-place : goal.invariant-loop-place
invariant-loop-place l = (l.place ≤ length l.entries) × (count_by (is_due l.ending) (take l.place l.entries) ≡ 1)

abbrev pub decreases-loop-place : goal.decreases-loop-place
decreases-loop-place l = l.place
