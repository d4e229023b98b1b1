use Rattle.fm_rundown.proofs.Scheduled.{drained_is_final as law}
use Rattle.fm_rundown.proofs.laws.drained_is_final.Goals as goal

pub returns : goal.returns
returns c = law
