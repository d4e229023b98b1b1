use Rattle.fm_core.proofs.Words.{Sweeping, file_lost, handle_lost, is_lost, is_lost_of, stream_lost, arith, subst, ◌||◌}
use Rattle.fm_core.proofs.Losing.{sweeping_as, sweeping_both}
use Rattle.fm_core.proofs.target.unlink_lost.Goals as goal

pub returns : goal.returns
returns c =
    let f = c.args.files.now.table in
    let lost = is_lost f in
    let first = subst (λ o. Sweeping (is_lost f o) c.args.contexts.now c.unlink_if_gone.new.contexts) c.handle_lost.ensures c.unlink_if_gone.ensures in
    let second = subst (λ o. Sweeping (is_lost f o) c.unlink_if_gone.new.contexts c.unlink_if_gone-2.new.contexts)
    c.stream_lost.ensures c.unlink_if_gone-2.ensures in
    let third = subst (λ o. Sweeping (is_lost f o) c.unlink_if_gone-2.new.contexts c.unlink_if_gone-3.new.contexts)
    c.file_lost.ensures c.unlink_if_gone-3.ensures in
    sweeping_as (λ x. (lost (handle_lost c.args.target) x || lost (stream_lost c.args.target) x) || lost (file_lost c.args.target) x)
    (is_lost_of f c.args.target) c.args.contexts.now
    c.unlink_if_gone-3.new.contexts (λ x. grind arith) (sweeping_both _ _ _ _ _ (sweeping_both _ _ _ _ _ first second) third)
