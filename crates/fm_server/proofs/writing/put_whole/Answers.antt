use Rattle.std.proofs.Common.{◌≡◌, ◌++◌, ◌∙◌, ap, List, ℕ, append_assoc, take, take-append-drop}
use Rattle.fm_server.proofs.Known.{appends_more}
use Rattle.fm_server.proofs.writing.put_whole.Goals as goal

pub loop-rest-preserved : goal.loop-rest-preserved
loop-rest-preserved g c =
    let so_far = c.loop-rest.invariant in
    let rest = c.loop-rest.rest.now in
    let count = c.in-Ok.count in
    let parts : take count rest ++ c.split_at.result.1.now ≡ rest =
    ap (λ (t : List ℕ). take count rest ++ t) c.split_at.ensures.back ∙ take-append-drop count rest in (
      so_far.0 ++ take count rest,
      appends_more _ _ _ so_far.0 (take count rest) so_far.1 c.in-Ok.ensures.appends,
      append_assoc so_far.0 (take count rest) c.split_at.result.1.now ∙ ap (λ (t : List ℕ). so_far.0 ++ t) parts ∙ so_far.2,
    )
