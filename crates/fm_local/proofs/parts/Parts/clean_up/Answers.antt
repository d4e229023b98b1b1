use Rattle.fm_local.proofs.queues.ManagerWaits.{same_flow}
use Rattle.fm_local.proofs.parts.Parts.clean_up.Goals as goal

pub returns-clause-waits : goal.returns-clause-waits
returns-clause-waits g c waits =
    same_flow _ _ _ _ c.clean_all.ensures.tidies.flow waits
