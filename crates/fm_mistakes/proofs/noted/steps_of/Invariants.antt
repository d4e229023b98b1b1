use Rattle.std.proofs.Common.{◌≡◌, take}
use Rattle.fm_local.specs.Offered.{steps}
use Rattle.fm_mistakes.proofs.noted.steps_of.Given as goal

abbrev pub invariant-loop-place : goal.invariant-loop-place
invariant-loop-place g l = l.list.items ≡ take l.place (steps l.fn.manager)
