use Rattle.std.proofs.Common.{◌≡◌, ◌≤◌, ◌+◌, ◌*◌, ◌++◌, length}
use Rattle.std.specs.Vec.{vec_capacity, vec_len}
use Rattle.fm_words.specs.Hexadecimal.{hex_pairs}
use Rattle.fm_words.proofs.hexadecimal.read_pairs.Given as goal

abbrev pub invariant-loop-rest : goal.invariant-loop-rest
invariant-loop-rest l =
    (hex_pairs l.bytes.items ++ l.rest ≡ l.fn.word) × (vec_len l.bytes * 2 + length l.rest ≤ vec_capacity l.bytes * 2 + 1)

abbrev pub decreases-loop-rest : goal.decreases-loop-rest
decreases-loop-rest l = length l.rest
