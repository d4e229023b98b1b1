use Rattle.fm_core.proofs.Holding.{empty_state}
use Rattle.fm_core.proofs.state.State.new.Goals as goal

pub invariant_of-result : goal.invariant_of-result
invariant_of-result c =
    empty_state c.new-4.result c.in_ok-flow.flow c.in_ok-contexts.contexts c.in_ok-files.files c.new-4.ensures c.in_ok-flow.ensures c.in_ok-contexts.ensures
    c.in_ok-files.ensures
