use Rattle.std.proofs.Common.{◌∙◌}
use Rattle.fm_altitude.proofs.Grammar.{fraction_of-read, whole_of-read}
use Rattle.fm_altitude.proofs.parts.trimmed_parts.Goals as goal

pub returns-clause-whole : goal.returns-clause-whole
returns-clause-whole c =
    c.without_front_zeros.ensures ∙ rw c.split_at_point.ensures.before (whole_of-read c.args.text.now c.requires)

pub returns-clause-fraction : goal.returns-clause-fraction
returns-clause-fraction c =
    c.without_back_zeros.ensures ∙ rw c.split_at_point.ensures.after (fraction_of-read c.args.text.now c.requires)
