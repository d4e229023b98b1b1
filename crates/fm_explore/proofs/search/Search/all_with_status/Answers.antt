use Rattle.std.proofs.Common.{◌∙◌, sym}
use Rattle.fm_explore.proofs.Wholes.{nothing_in}
use Rattle.fm_explore.proofs.search.Search.all_with_status.Goals as goal

pub returns : goal.returns
returns g c = λ zero.
    let none = nothing_in c.in_ok-search.search.verdict c.in_ok-search.search.stopped c.in_ok-search.search.is_tested (sym c.exit_status-status.ensures ∙ zero) in
    let whole = c.in_ok-search.ensures.whole none.0 in
    (whole.0, (whole.1.0, whole.1.1, sym whole.1.2 ∙ none.1))
