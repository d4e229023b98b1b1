use Rattle.std.proofs.Common.{◌≡◌, ◌≤◌, take, length}
use Rattle.fm_operations.proofs.Words.{last_place}
use Rattle.fm_operations.proofs.entries.last_place.Given as goal

-- none stands from there on
abbrev pub invariant-loop-count : goal.invariant-loop-count
invariant-loop-count l = (l.count ≤ length l.entries) × (last_place l.entries ≡ last_place (take l.count l.entries))

abbrev pub decreases-loop-count : goal.decreases-loop-count
decreases-loop-count l = l.count
