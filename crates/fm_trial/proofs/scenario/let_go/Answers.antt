use Rattle.std.proofs.Common.{rules}
use Rattle.std.proofs.lemmas.Fn.{filter_same}
use Rattle.fm_trial.proofs.scenario.let_go.Goals as goal

pub returns : goal.returns
returns c = filter_same _ _ _ (λ o is_kept f' called. search rules) _ _ c.retain.ensures.filtered
