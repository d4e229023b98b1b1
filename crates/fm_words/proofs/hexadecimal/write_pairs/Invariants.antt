use Rattle.std.proofs.Common.{◌≡◌, ◌≤◌, ◌+◌, ◌*◌, ◌++◌, length}
use Rattle.std.specs.Vec.{vec_capacity, vec_len}
use Rattle.fm_words.specs.Hexadecimal.{hex_pairs}
use Rattle.fm_words.proofs.hexadecimal.write_pairs.Given as goal

abbrev pub invariant-loop-rest : goal.invariant-loop-rest
invariant-loop-rest l =
    (l.text.items ++ hex_pairs l.rest ≡ l.initial.text.items ++ hex_pairs l.bytes)
    × (vec_len l.text + length l.rest * 2 ≤ vec_capacity l.text)
    × (vec_capacity l.initial.text ≤ vec_capacity l.text)

abbrev pub decreases-loop-rest : goal.decreases-loop-rest
decreases-loop-rest l = length l.rest
