use Rattle.std.proofs.Common.{◌≡◌, take}
use Rattle.fm_local.specs.Offered.{refused_calls}
use Rattle.fm_mistakes.proofs.noted.refused_calls_of.Given as goal

abbrev pub invariant-loop-place : goal.invariant-loop-place
invariant-loop-place g l = l.list.items ≡ take l.place (refused_calls l.fn.manager)
