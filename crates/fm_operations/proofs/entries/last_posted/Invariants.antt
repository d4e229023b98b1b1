use Rattle.std.proofs.Common.{◌≡◌, ◌≤◌, take, length}
use Rattle.fm_operations.proofs.Words.{last_posted}
use Rattle.fm_operations.proofs.entries.last_posted.Given as goal

-- none stands from the place on
abbrev pub invariant-loop-place : goal.invariant-loop-place
invariant-loop-place l = (l.place ≤ length l.entries) × (last_posted l.entries ≡ last_posted (take l.place l.entries))

abbrev pub decreases-loop-place : goal.decreases-loop-place
decreases-loop-place l = l.place
