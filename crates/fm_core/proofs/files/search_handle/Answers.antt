use Rattle.fm_core.proofs.Words.{found_rising, FileHandle, rules, ◌∙◌, answers_always}
use Rattle.fm_core.proofs.files.search_handle.Goals as goal

pub returns : goal.returns
returns c =
    c.ok.ensures.value ∙ found_rising (λ (x : FileHandle). x.number.0) c.args.handle.0 c.args.handles.now c.binary_search_by_key.result c.requires
    c.binary_search_by_key.ensures.bound
    (c.binary_search_by_key.ensures.position (λ (x : FileHandle). x.number.0) (answers_always _ _ _ (λ f a r g called. search rules)))
