use Rattle.std.proofs.Common.{rules, eqb}
use Rattle.std.proofs.lemmas.Iterator.{cases_from_all}
use Rattle.std.proofs.lemmas.Iterator.Splits.{YieldsList-from_slice_split}
use Rattle.fm_types.specs.Paths.{IsPathPart}
use Rattle.fm_types.proofs.Parts.{all_from_search}
use Rattle.fm_types.proofs.path.has_path_parts.Goals as goal

pub returns : goal.returns
returns c =
    let parts = YieldsList-from_slice_split _ (λ byte. eqb byte 47) c.args.text.now c.split.ensures.rest c.split.ensures.done
    c.split.ensures.closure (λ x q k. search rules) in
    all_from_search IsPathPart _ _
    (cases_from_all _ _ _ IsPathPart (λ part. IsPathPart part → ⊥) c.all.ensures.ran parts
    (λ x q k. search rules) (λ x q k. search rules))
