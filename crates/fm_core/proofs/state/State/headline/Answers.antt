use Rattle.fm_core.proofs.Words.{headline_from}
use Rattle.fm_core.proofs.state.State.headline.Goals as goal

pub returns : goal.returns
returns c = headline_from c.args.self.now c.laws.ensures
