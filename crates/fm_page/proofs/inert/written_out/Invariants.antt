use Rattle.std.proofs.Common.{◌≡◌, ◌++◌, length}
use Rattle.fm_page.specs.Escapes.{inert}
use Rattle.fm_page.proofs.inert.written_out.Given as goal

abbrev pub invariant-loop-byte : goal.invariant-loop-byte
invariant-loop-byte l = l.text.items ++ inert l.rest ≡ inert l.initial.rest

abbrev pub decreases-loop-byte : goal.decreases-loop-byte
decreases-loop-byte l = length l.rest
