use Rattle.fm_base.proofs.Words.{range_with_len, byte_at}
use Rattle.std.specs.Prelude.{◌≡◌, ◌-◌, ◌≤◌, length, map}
use Rattle.fm_base.proofs.pages.copy.Given as goal

-- the bytes so far
abbrev pub invariant-loop-out : goal.invariant-loop-out
invariant-loop-out l = record {
  within : length l.out.items ≤ l.end;
  copied : l.out.items ≡ map (byte_at l.pages) (range_with_len l.offset (length l.out.items));
}

abbrev pub decreases-loop-out : goal.decreases-loop-out
decreases-loop-out l = l.end - length l.out.items
