use Rattle.std.proofs.Common.{◌≡◌, ◌≤◌}
use Rattle.std.specs.Prelude.{count_by, take}
use Rattle.fm_ctx.specs.Counting.{is_open}
use Rattle.fm_ctx.specs.Rows.{Row, slot_of}
use Rattle.fm_ctx.proofs.store.Rows.open_of.Given as goal

abbrev pub invariant-loop-slot : goal.invariant-loop-slot
invariant-loop-slot l = record {
  count : l.count ≡ count_by (λ (r : Row). is_open l.owner (slot_of r).context) (take l.slot l.self);
  few : l.count ≤ l.slot;
}
