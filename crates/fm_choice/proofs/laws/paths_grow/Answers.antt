use Rattle.fm_choice.proofs.Growing.{goes_on, grows, never_itself}
use Rattle.fm_choice.proofs.laws.paths_grow.Goals as goal

pub returns-clause-grows : goal.returns-clause-grows
returns-clause-grows c path next choices follows on = grows path next choices follows on

pub returns-clause-apart : goal.returns-clause-apart
returns-clause-apart c path before = never_itself path before

pub returns-clause-on : goal.returns-clause-on
returns-clause-on c one two three first second = goes_on one two three first second
