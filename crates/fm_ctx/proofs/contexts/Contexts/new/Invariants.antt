use Rattle.std.proofs.Common.{◌≡◌, ◌≤◌, [], None, replicate, vec_capacity}
use Rattle.fm_ctx.proofs.contexts.Contexts.new.Given as goal

abbrev pub invariant-loop-worker : goal.invariant-loop-worker
invariant-loop-worker l = record {
  hands : l.hands.items ≡ replicate l._worker [];
  cleaning : l.cleaning.items ≡ replicate l._worker None;
  hands_room : 48 ≤ vec_capacity l.hands;
  cleaning_room : 48 ≤ vec_capacity l.cleaning;
  left : l.left.items ≡ replicate l._worker [];
  left_room : 48 ≤ vec_capacity l.left;
}
