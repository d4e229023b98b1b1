use Rattle.fm_base.proofs.Words.{page_of, Overwrites}
use Rattle.std.specs.Prelude.{◌≡◌, ℕ, ◌-◌, ◌≤◌, length, take}
use Rattle.fm_base.proofs.pages.overwrite.Given as goal

-- so many bytes are written, and no page is longer or shorter
abbrev pub invariant-loop-done : goal.invariant-loop-done
invariant-loop-done l = record {
  within : l.done ≤ length l.bytes;
  over : Overwrites l.offset (take l.done l.bytes) l.initial.pages l.pages;
  long : (q : ℕ) → length (page_of l.pages q) ≡ length (page_of l.initial.pages q);
}

abbrev pub decreases-loop-done : goal.decreases-loop-done
decreases-loop-done l = length l.bytes - l.done
