use Rattle.std.proofs.Common.{All, drop, ◌≤◌, length}
use Rattle.fm_choice.specs.Choices.{IsLast}
use Rattle.fm_choice.proofs.search.last_open.Given as goal

abbrev pub invariant-loop-at : goal.invariant-loop-at
invariant-loop-at l = (l.at ≤ length l.choices) × All IsLast (drop l.at l.choices)

abbrev pub decreases-loop-at : goal.decreases-loop-at
decreases-loop-at l = l.at
