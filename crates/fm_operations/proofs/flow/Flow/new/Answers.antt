use Rattle.std.proofs.Common.{rules}
use Rattle.fm_operations.proofs.Tallied.{tallied_none}
use Rattle.fm_operations.proofs.flow.Flow.new.Goals as goal

pub invariant_of-result : goal.invariant_of-result
invariant_of-result c = rw c.new-2.ensures.items (search rules, tallied_none c.in_ok-flights.ensures)
