use Rattle.std.proofs.Common.{◌==◌, sym, arith}
use Rattle.fm_words.proofs.Rows.{none_passes}
use Rattle.fm_words.proofs.words.count_before.Goals as goal

pub returns-in-None : goal.returns-in-None
returns-in-None c =
    let none = none_passes (λ b. b == c.args.byte) c.loop-row.rest.now (sym (c.in-None.ensures)) in
    omega (arith, none, c.loop-row.invariant.0, c.loop-row.invariant.1)
