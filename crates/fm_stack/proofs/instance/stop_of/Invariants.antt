use Rattle.std.proofs.Common.{◌≡◌, ◌++◌, drop, map, take}
use Rattle.fm_stack.proofs.Words.{is_of, stop_where}
use Rattle.fm_stack.proofs.instance.stop_of.Given as goal

-- the rows so far are stopped
abbrev pub invariant-loop-row : goal.invariant-loop-row
invariant-loop-row l = l.row-items ≡ map (stop_where (is_of l.filter)) (take l.row-index l.fn.rows.items) ++ drop l.row-index l.fn.rows.items
