use Rattle.std.proofs.Common.{◌≡◌, ◌==◌, ◌+◌, length}
use Rattle.std.specs.List.{position_or_len}
use Rattle.fm_words.proofs.words.count_before.Given as goal

abbrev pub invariant-loop-row : goal.invariant-loop-row
invariant-loop-row l =
    (l.before + length l.rest ≡ length l.text)
    × (position_or_len (λ b. b == l.byte) l.text ≡ l.before + position_or_len (λ b. b == l.byte) l.rest)

abbrev pub decreases-loop-row : goal.decreases-loop-row
decreases-loop-row l = length l.rest
