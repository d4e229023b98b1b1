use Rattle.fm_local.proofs.queues.EndedLasts.{ended_lasts}
use Rattle.fm_local.proofs.laws.ended_lasts.Goals as goal

pub returns : goal.returns
returns c = ended_lasts
