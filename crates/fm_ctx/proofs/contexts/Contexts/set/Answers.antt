use Rattle.std.proofs.Common.{◌<◌}
use Rattle.fm_ctx.proofs.Words.{sym, subst, count_in, ContextsKept, carried_of, IsFree, unlinked_for}
use Rattle.fm_ctx.proofs.Counts.{count_held}
use Rattle.fm_ctx.proofs.Moves.{within_hands}
use Rattle.fm_ctx.proofs.Sets.{free_at_first, free_at_last, live_at_last}
use Rattle.fm_ctx.proofs.contexts.Contexts.set.Goals as goal

pub link-requires-clause-live : goal.link-requires-clause-live
link-requires-clause-live c =
    let now = c.args.self.now in
    count_held (carried_of now) now.table c.args.worker.0 c.args.id (within_hands c.args.worker.0 c.laws.ensures.lawful c.requires.within) c.requires.held

pub link-requires-clause-free : goal.link-requires-clause-free
link-requires-clause-free c = free_at_first c.args.self.now.table c.args.id c.args.owner c.args.object c.requires.bare c.in_default.ensures.found

pub link-requires-in-Replace-clause-live : goal.link-requires-in-Replace-clause-live
link-requires-in-Replace-clause-live c =
    let now = c.args.self.now in
    let after : ContextsKept = record now { table = unlinked_for (carried_of now) now.table c.args.worker.0 c.args.wants_old c.in-Some.old } in
    subst (λ (k : ContextsKept). 0 < count_in (carried_of k) k.table c.args.id) (sym c.unlink_for.ensures)
    (live_at_last (carried_of after) c.args.worker.0 c.args.wants_old c.in-Some.old c.args.id c.laws.ensures.lawful c.requires.within c.requires.held)

pub link-requires-in-Replace-clause-free : goal.link-requires-in-Replace-clause-free
link-requires-in-Replace-clause-free c =
    subst (λ (k : ContextsKept). IsFree k.table c.args.id c.args.object) (sym c.unlink_for.ensures)
    (free_at_last c.args.worker.0 c.args.wants_old c.in-Some.old c.args.id c.args.owner c.args.object c.laws.ensures.lawful
    c.requires.bare c.in-Some.ensures.found)
