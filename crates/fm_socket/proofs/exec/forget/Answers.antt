use Rattle.std.proofs.Common.{rules}
use Rattle.std.proofs.lemmas.Fn.{filter_same}
use Rattle.fm_socket.proofs.exec.forget.Goals as goal

pub returns : goal.returns
returns c = filter_same _ _ _ (λ own is_other f' kept. search rules) _ _ c.retain.ensures.filtered
