use Rattle.std.proofs.Common.{◌≡◌, ◌++◌}
use Rattle.std.specs.Prelude.{take, drop}
use Rattle.fm_samples.specs.Shift.{lowered}
use Rattle.fm_samples.proofs.shift.lower.Given as goal

-- the bytes before the place are lowered, and all else is as it was
abbrev pub invariant-loop-place : goal.invariant-loop-place
invariant-loop-place l = l.lent ≡ record l.initial.lent { out = lowered (take l.place l.initial.lent.out) ++ drop l.place l.initial.lent.out }
