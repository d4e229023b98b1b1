use Rattle.fm_world.proofs.Runs.{rules_keep}
use Rattle.fm_world.proofs.laws.rules_keep_headline.Goals as goal

pub returns : goal.returns
returns c = rules_keep
