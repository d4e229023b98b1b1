use Rattle.fm_rundown.proofs.Scheduled.{rule_is_kept as law}
use Rattle.fm_rundown.proofs.laws.rule_is_kept.Goals as goal

pub returns : goal.returns
returns c = law
