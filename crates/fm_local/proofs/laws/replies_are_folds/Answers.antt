use Rattle.fm_local.proofs.operations.ReplyLists.{all_replied}
use Rattle.fm_local.proofs.laws.replies_are_folds.Goals as goal

pub returns : goal.returns
returns g c k = all_replied g.F.Minifilter g.B.Base k
