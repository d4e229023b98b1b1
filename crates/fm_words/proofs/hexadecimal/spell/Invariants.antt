use Rattle.std.proofs.Common.{◌≡◌, ◌*◌, length, take}
use Rattle.fm_words.specs.Hexadecimal.{hex_pairs}
use Rattle.fm_words.proofs.hexadecimal.spell.Given as goal

abbrev pub invariant-loop-place : goal.invariant-loop-place
invariant-loop-place l =
    (length l.digits ≡ length l.bytes * 2) × (take (l.place * 2) l.digits ≡ hex_pairs (take l.place l.bytes))
