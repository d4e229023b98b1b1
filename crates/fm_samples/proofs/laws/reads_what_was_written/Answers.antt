use Rattle.fm_samples.proofs.Plain.{all_back}
use Rattle.fm_samples.proofs.laws.reads_what_was_written.Goals as goal

pub returns : goal.returns
returns c = all_back
