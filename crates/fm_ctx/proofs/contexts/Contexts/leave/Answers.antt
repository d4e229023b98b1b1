use Rattle.std.proofs.Common.{◌≡◌, ◌<◌}
use Rattle.fm_ctx.proofs.Words.{length, sym, ap, subst, arith, hand_of, get_or-set_same, [], ContextsKept, carried_of, nat_tests}
use Rattle.fm_ctx.specs.Bags.{left_of}
use Rattle.fm_ctx.specs.Settling.{Leaves}
use Rattle.fm_ctx.proofs.Leaving.{leaves_empty, leaves_noted}
use Rattle.fm_ctx.proofs.contexts.Contexts.leave.Goals as goal

pub release_left-requires-clause-noted : goal.release_left-requires-clause-noted
release_left-requires-clause-noted c =
    let old = c.args.self.now in
    let within : c.args.worker.0 < length old.table.left = omega (arith, c.laws.ensures.lawful.leavers, c.requires) in
    subst (λ (k : ContextsKept). left_of k.table.left c.args.worker.0 ≡ hand_of k.table.hands c.args.worker.0) (sym c.note_left.ensures.noted)
    (get_or-set_same old.table.left c.args.worker.0 (hand_of old.table.hands c.args.worker.0) [] within)

pub returns-then-hand_len-gt0-clause-table : goal.returns-then-hand_len-gt0-clause-table
returns-then-hand_len-gt0-clause-table c =
    let new = c.release_left.new.self.table in
    leaves_noted c.args.self.now c.args.worker.0 (subst (λ (k : ContextsKept). Leaves (carried_of k) k.table new c.args.worker.0)
    c.note_left.ensures.noted c.release_left.ensures.table)

pub returns-else-hand_len-gt0-clause-table : goal.returns-else-hand_len-gt0-clause-table
returns-else-hand_len-gt0-clause-table c =
    let old = c.args.self.now in
    let same = ap (λ (k : ContextsKept). length (hand_of k.table.hands c.args.worker.0)) c.note_left.ensures.noted in
    let empty : length (hand_of old.table.hands c.args.worker.0) ≡ 0 = grind (arith, nat_tests, same, c.hand_len.ensures, c.if-hand_len-gt0.false) in
    subst (λ (k : ContextsKept). Leaves (carried_of old) old.table k.table c.args.worker.0) (sym c.note_left.ensures.noted)
    (leaves_empty old c.args.worker.0 empty c.note_left.ensures.few)
