use Rattle.fm_ctx.proofs.Words.{arith}
use Rattle.fm_ctx.proofs.Stored.{given_past, given_here}
use Rattle.fm_ctx.proofs.store.Rows.was_given.Goals as goal

pub returns-then-slot-len : goal.returns-then-slot-len
returns-then-slot-len c =
    given_past c.self.inside.slots.slots c.self.inside.lasts.items c.self.view_is c.args.id
    (omega (arith, c.len.ensures, c.if-slot-len.true, c.self.inside.lasts.ok.0))

pub returns : goal.returns
returns c =
    given_here c.self.inside.slots.slots c.self.inside.lasts.items c.self.view_is c.args.id c.index.result.now
    (omega (arith, c.len.ensures, c.if-slot-len.false, c.self.inside.lasts.ok.0)) c.index.ensures
