use Rattle.std.proofs.Common.{◌≡◌, ◌++◌, drop}
use Rattle.fm_explore.specs.Orders.{others_of}
use Rattle.fm_explore.proofs.schedule.with_others.Given as goal

abbrev pub invariant-loop-client : goal.invariant-loop-client
invariant-loop-client l = l.options.items ++ others_of l.last l.client (drop l.client l.can) ≡ l.initial.options.items ++ others_of l.last 0 l.can
