use Rattle.fm_core.proofs.Words.{post_does}
use Rattle.fm_core.proofs.state.State.post_returned.Goals as goal

pub returns-in-Some-clause-hand : goal.returns-in-Some-clause-hand
returns-in-Some-clause-hand c = (post_does _ _ _ _ _ _ c.post_data_returned.ensures.event).1.0

pub returns-in-Some-clause-held : goal.returns-in-Some-clause-held
returns-in-Some-clause-held c = (post_does _ _ _ _ _ _ c.post_data_returned.ensures.event).1.1
