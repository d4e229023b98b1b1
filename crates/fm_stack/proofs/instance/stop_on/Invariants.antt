use Rattle.std.proofs.Common.{◌≡◌, ◌++◌, drop, map, take}
use Rattle.fm_stack.proofs.Words.{is_on, stop_where}
use Rattle.fm_stack.proofs.instance.stop_on.Given as goal

-- the rows so far are stopped
abbrev pub invariant-loop-row : goal.invariant-loop-row
invariant-loop-row l = l.row-items ≡ map (stop_where (is_on l.volume)) (take l.row-index l.fn.rows.items) ++ drop l.row-index l.fn.rows.items
