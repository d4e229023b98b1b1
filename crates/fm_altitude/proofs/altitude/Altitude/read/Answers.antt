use Rattle.std.proofs.Common.{◌≡◌, take, refl, lit<}
use Rattle.fm_altitude.specs.Grammar.{canonical}
use Rattle.fm_altitude.specs.Laws.{same-canonical}
use Rattle.fm_altitude.proofs.Grammar.{length-altitude}
use Rattle.fm_altitude.proofs.Reading.{kept, kept_text, spelled-fits}
use Rattle.fm_altitude.proofs.altitude.Altitude.read.Goals as goal
use Rattle.fm_altitude.proofs.altitude.Altitude.read.Goals.{After-spelled_len}

text_kept : (c : After-spelled_len) → take c.spelled_len.result c.spell.result ≡ canonical c.args.text.now
text_kept c =
    kept_text c.args.text.now _ _ c.trimmed_parts.ensures.whole c.trimmed_parts.ensures.fraction
    c.spell.result c.spelled_len.result c.spell.ensures c.spelled_len.ensures

pub spell-requires : goal.spell-requires
spell-requires c = (
  lit< tt,
  spelled-fits c.args.text.now _ _ c.trimmed_parts.ensures.whole c.trimmed_parts.ensures.fraction (c.if-not-is_altitude.ensures.0 refl),
)

pub invariant_of-result : goal.invariant_of-result
invariant_of-result c =
    kept c.args.text.now _ _ c.trimmed_parts.ensures.whole c.trimmed_parts.ensures.fraction
    c.spell.result c.spelled_len.result _ (c.if-not-is_altitude.ensures.0 refl) c.spell.ensures c.spelled_len.ensures refl

pub returns-clause-value : goal.returns-clause-value
returns-clause-value c = rw (text_kept c) (same-canonical c.args.text.now)

pub returns-clause-spelling : goal.returns-clause-spelling
returns-clause-spelling c = text_kept c

pub returns-clause-shorter : goal.returns-clause-shorter
returns-clause-shorter c = rw (text_kept c) (length-altitude c.args.text.now (c.if-not-is_altitude.ensures.0 refl))
