use Rattle.fm_rundown.proofs.Scheduled.{no_word_wraps as law}
use Rattle.fm_rundown.proofs.laws.no_word_wraps.Goals as goal

pub returns : goal.returns
returns c = law
