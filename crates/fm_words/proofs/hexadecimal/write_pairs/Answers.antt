use Rattle.std.proofs.Common.{arith}
use Rattle.std.proofs.lemmas.Grind.{common_steps}
use Rattle.fm_words.proofs.Lengths.{pairs_length}
use Rattle.fm_words.proofs.hexadecimal.write_pairs.Goals as goal

pub returns-in_err-try_reserve-clause-full : goal.returns-in_err-try_reserve-clause-full
returns-in_err-try_reserve-clause-full c = let pairs = pairs_length c.args.bytes.now in grind (arith, common_steps)
