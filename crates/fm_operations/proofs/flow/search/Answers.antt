use Rattle.fm_operations.proofs.Words.{FlowRecord}
use Rattle.std.proofs.Common.{◌∙◌, rules}
use Rattle.std.proofs.lemmas.List.Sorted.{answers_always}
use Rattle.fm_types.proofs.Rising.{found_rising}
use Rattle.fm_operations.proofs.flow.search.Goals as goal

pub returns : goal.returns
returns c =
    let facts = c.binary_search_by_key.ensures in
    let by_number = facts.position (λ (r : FlowRecord). r.number.0) (answers_always _ _ _ (λ f a r g called. search rules)) in
    c.ok.ensures.value ∙ found_rising (λ (r : FlowRecord). r.number.0) c.args.number.0 c.args.operations.now
    c.binary_search_by_key.result c.requires facts.bound by_number
