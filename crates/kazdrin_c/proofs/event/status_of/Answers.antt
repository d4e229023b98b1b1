use Rattle.kazdrin_c.proofs.Numbered.{numbered}
use Rattle.kazdrin_c.proofs.event.status_of.Goals as goal

pub returns : goal.returns
returns c = numbered c.from_number.result c.args.number c.args.count c.from_number.ensures.there c.from_number.ensures.number c.from_number.ensures.information
