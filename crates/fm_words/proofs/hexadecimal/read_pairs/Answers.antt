use Rattle.std.proofs.Common.{arith}
use Rattle.std.proofs.lemmas.Bool.Decides.{nat_tests}
use Rattle.fm_words.proofs.Spellings.{bad_pair_is_none, short_is_none}
use Rattle.fm_words.proofs.hexadecimal.read_pairs.Goals as goal

pub returns-in_default-read_pair : goal.returns-in_default-read_pair
returns-in_default-read_pair c =
    bad_pair_is_none c.loop-rest.bytes.items c.loop-rest.rest.now c.args.word.now c.loop-rest.invariant.0 c.in-len2-up.len_at_least
    c.in_default-read_pair.ensures

pub returns-else-is_empty : goal.returns-else-is_empty
returns-else-is_empty c =
    short_is_none c.loop-rest.bytes.items c.loop-rest.rest.now c.args.word.now c.loop-rest.invariant.0 c.in_default.len_below
    (grind (arith, nat_tests, c.if-is_empty.ensures))
