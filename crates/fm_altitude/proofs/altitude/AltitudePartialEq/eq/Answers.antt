use Rattle.std.proofs.Common.{◌∙◌}
use Rattle.fm_altitude.specs.Order.{altitude_cmp}
use Rattle.fm_altitude.specs.Laws.{texts_decide, true_where_equal}
use Rattle.fm_altitude.proofs.altitude.AltitudePartialEq.eq.Goals as goal

pub returns-clause-eq : goal.returns-clause-eq
returns-clause-eq c =
    c.eq.ensures ∙ rw (c.text.ensures.text, c.text-2.ensures.text)
    (texts_decide c.args.self.now c.args.other.now c.text.ensures.canonical c.text-2.ensures.canonical)

pub returns-clause-value : goal.returns-clause-value
returns-clause-value c = true_where_equal c.eq.result (altitude_cmp c.args.self.now c.args.other.now) (returns-clause-eq c)
