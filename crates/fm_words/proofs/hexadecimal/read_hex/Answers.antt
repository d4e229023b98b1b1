use Rattle.std.proofs.Common.{◌<◌, ◌≢◌, ℕ, [], ◌∷◌, length, Vec, Global, arith}
use Rattle.std.proofs.lemmas.Bool.Decides.{nat_tests}
use Rattle.std.specs.Cmp.Lexicographic.{other_text}
use Rattle.fm_words.proofs.Spellings.{read_by_pairs}
use Rattle.fm_words.proofs.hexadecimal.read_hex.Goals as goal

pub returns : goal.returns
returns c =
    let other : c.args.word.now ≢ 45 ∷ [] = other_text c.args.word.now (45 ∷ []) (rw c.as_slice.ensures at c.if-eq.ensures) in
    let some : 0 < length c.args.word.now = grind (arith, nat_tests, c.if-is_empty.ensures) in
    read_by_pairs (λ (v : Vec ℕ Global). v.items) c.args.word.now c.read_pairs.result other some c.read_pairs.ensures
