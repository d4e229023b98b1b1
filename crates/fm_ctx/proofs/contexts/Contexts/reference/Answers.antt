use Rattle.fm_ctx.proofs.Words.{sym, carried_of}
use Rattle.fm_ctx.proofs.Counts.{count_held}
use Rattle.fm_ctx.proofs.Moves.{within_hands}
use Rattle.fm_ctx.proofs.contexts.Contexts.reference.Goals as goal

pub grab-requires-clause-live : goal.grab-requires-clause-live
grab-requires-clause-live c =
    count_held (carried_of c.args.self.now) c.args.self.now.table c.args.worker.0 c.args.id
    (within_hands c.args.worker.0 c.laws.ensures.lawful c.requires) (sym c.if-not-holds.ensures.held)
