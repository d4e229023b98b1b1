use Rattle.fm_samples.proofs.Plain.{plain_where_quiet}
use Rattle.fm_samples.proofs.laws.plain_where_quiet.Goals as goal

pub returns : goal.returns
returns c = plain_where_quiet
