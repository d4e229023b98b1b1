use Rattle.std.proofs.Common.{◌≡◌, ◌≤◌, replicate}
use Rattle.std.specs.Prelude.{vec_capacity}
use Rattle.std.specs.FinMap.{empty}
use Rattle.fm_device.proofs.memory.MemoryDevices.new.Given as goal

abbrev pub invariant-loop : goal.invariant-loop
invariant-loop l = (l.folders.all.items ≡ replicate l.counter empty) × (l.counter ≤ 8) × (8 ≤ vec_capacity l.folders.all)
