use Rattle.std.proofs.Common.{◌∙◌}
use Rattle.std.proofs.lemmas.List.{take_rest}
use Rattle.fm_altitude.specs.Grammar.{fraction_of}
use Rattle.fm_altitude.proofs.Grammar.{behind_whole, none_behind}
use Rattle.fm_altitude.proofs.altitude.Altitude.fraction.Goals as goal

pub returns-in-empty : goal.returns-in-empty
returns-in-empty c =
    none_behind c.split_at.result.1.now (fraction_of c.args.self.now) c.in-empty.len_below
    (rw (c.split_at.ensures.back, c.text.ensures.text, c.whole_len.ensures.value) (behind_whole c.args.self.now c.text.ensures.canonical))

pub returns-in-len1-up : goal.returns-in-len1-up
returns-in-len1-up c =
    take_rest c.split_at.result.1.now 1
    ∙ rw (c.split_at.ensures.back, c.text.ensures.text, c.whole_len.ensures.value) (behind_whole c.args.self.now c.text.ensures.canonical)
