use Rattle.std.proofs.Common.{◌≡◌, ◌≤◌}
use Rattle.fm_report.specs.Counted.{held_below}
use Rattle.fm_report.proofs.counted.held_operations.Given as goal

abbrev pub invariant-loop-number : goal.invariant-loop-number
invariant-loop-number l = (l.count ≡ held_below l.number l.state.flow) × (l.count ≤ l.number)
