use Rattle.fm_altitude.specs.Laws.{canonical_spelling}
use Rattle.fm_altitude.proofs.laws.canonical_spelling.Goals as goal

pub returns : goal.returns
returns c = canonical_spelling
