use Rattle.std.proofs.Common.{◌≡◌, ◌++◌, length}
use Rattle.fm_page.specs.Escapes.{escaped}
use Rattle.fm_page.proofs.escape.spelled_out.Given as goal

abbrev pub invariant-loop-byte : goal.invariant-loop-byte
invariant-loop-byte l = l.text.items ++ escaped l.rest ≡ escaped l.initial.rest

abbrev pub decreases-loop-byte : goal.decreases-loop-byte
decreases-loop-byte l = length l.rest
