use Rattle.fm_choice.proofs.Trees.{whole_runs_all}
use Rattle.fm_choice.proofs.laws.whole_searches_run_all.Goals as goal

pub returns : goal.returns
returns c = whole_runs_all
