use Rattle.fm_base.proofs.Words.{page_of, SameBytes}
use Rattle.std.specs.Prelude.{ℕ, ◌+◌, ◌*◌, ◌<◌, ◌≤◌, length}
use Rattle.fm_base.proofs.pages.make_room.Given as goal

-- the pages so far have room, and all of them the bytes that they had
abbrev pub invariant-loop-number : goal.invariant-loop-number
invariant-loop-number l = record {
  same : SameBytes l.fn.pages l.pages;
  room : (q place : ℕ) → place < 4096 → l.from ≤ 4096 * q + place → 4096 * q + place < l.end → q < l.number → place < length (page_of l.pages q);
}
