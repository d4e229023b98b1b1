use Rattle.fm_operations.proofs.Words.{ap, count_by, arith}
use Rattle.std.proofs.Common.{◌∙◌}
use Rattle.fm_operations.specs.Flights.{flies}
use Rattle.fm_operations.specs.Table.{in_flight}
use Rattle.fm_operations.proofs.Drains.{in_flight_counted}
use Rattle.fm_operations.proofs.flow.Flow.in_flight.Goals as goal

pub returns-then-instance-lt-INSTANCES : goal.returns-then-instance-lt-INSTANCES
returns-then-instance-lt-INSTANCES c = c.of.ensures ∙ c.self.invariant.1.flights c.args.instance.0 (omega arith)
    ∙ ap (in_flight c.args.instance.0) c.self.view_is

pub returns : goal.returns
returns c =
    c.flying.ensures ∙ ap (count_by (flies c.args.instance.0)) c.deref.ensures.value
    ∙ in_flight_counted c.args.instance.0 c.self.inside.operations.items c.self.invariant.0.sound ∙ ap (in_flight c.args.instance.0) c.self.view_is
